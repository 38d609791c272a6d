use Rattle.std.proofs.Common.{◌≡◌, ◌++◌, ◌∷◌, [], length, ap, sym, ◌∙◌, arith}
use Rattle.serde_json.specs.Data.{object}
use Rattle.serde_json.specs.View.{view}
use Rattle.serde_json.specs.Written.{compact_text, has_float}
use Rattle.framehop_perf_stacks.specs.Json.{stack_members}
use Rattle.framehop_perf_stacks.specs.Samples.{end_of, name_of_end, address_of_end, thread_told}
use Rattle.framehop_perf_stacks.proofs.JsonLemmas.{told-none, stack-none, rest-is}
use Rattle.framehop_perf_stacks.proofs.sample_json.rest_text.Goals as goal
use Rattle.framehop_perf_stacks.proofs.sample_json.rest_text.Goals.{in-Some+in_ok-push+in_ok-extend_from_slice, in_default}

pub returns : goal.returns
returns c = λ frames_none.
    let at = c.args.at in
    let end = name_of_end (end_of c.args.end) in
    let address = address_of_end (end_of c.args.end) in
    let who = thread_told at.options at.name.now at.sample in
    let no_float = ap has_float c.in_ok-value.ensures ∙ stack-none end address (view c.args.frames) who frames_none (told-none at.options at.name.now at.sample) in
    let whole : c.as_bytes.result.now ≡ compact_text (object (stack_members end address (view c.args.frames) who)) =
    c.as_bytes.ensures.value ∙ c.in_ok-text.ensures.text no_float ∙ ap compact_text c.in_ok-value.ensures in
    elim c.match-split_first.branch [
      | in-Some+in_ok-push+in_ok-extend_from_slice w ↦
          ap (λ list. list.items) w.rest-is ∙ w.in_ok-extend_from_slice.ensures.items
          ∙ ap (λ list. list ++ w.in-Some.members.now) (w.in_ok-push.ensures.items ∙ ap (λ list. list ++ 44 ∷ []) c.new-rest.ensures.items)
          ∙ rest-is end address (view c.args.frames) who c.as_bytes.result.now w.in-Some.members.now w.in-Some._brace.now whole w.in-Some.ensures.cases.0
      | in_default w ↦
          let empty = sym (ap length whole) ∙ w.in_default.ensures.cases in
          let none : ⊥ = omega (arith, empty) in
          absurd none
    ]
