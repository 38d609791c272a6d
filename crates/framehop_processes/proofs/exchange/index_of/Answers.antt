use Rattle.std.proofs.Common.{◌≡◌, ◌<◌, length, get_or, false, Some, rules, arith, refl, ap, ◌∙◌}
use Rattle.framehop_processes.specs.declared.mapping.Mapping.{Mapping}
use Rattle.framehop_processes.specs.Mappings.{left_by}
use Rattle.framehop_processes.proofs.ApartLemmas.{is-taken, none-taken}
use Rattle.framehop_processes.proofs.exchange.index_of.Goals as goal
use Rattle.framehop_processes.proofs.exchange.index_of.Goals.{else-index-mappings-via-then-index-mappings+else-mappings-index, else-index-mappings-via-else-index-mappings}

abbrev none : Mapping
none = record { start = 0; end = 0; base_avma = 0; file = 0; has_sections = false }

pub returns-then-mappings-index : goal.returns-then-mappings-index
returns-then-mappings-index c =
    let ms = c.args.mappings.now in
    let before = c.split_ending_by.result.0.now in
    let given : Some c.in_ok-start.start ≡ c.args.start = search rules in
    let within : length before < length ms = c.if-index-mappings.true in (
      within,
      is-taken c.in_ok-start.start ms before c.split_ending_by.result.1.now c.split_ending_by.ensures.whole c.split_ending_by.ensures.before c.requires
          (length before) refl (get_or ms (length before) none) (search rules) within (search rules)
          ∙ ap (λ gone. left_by gone ms) given,
    )

pub returns : goal.returns
returns c =
    let ms = c.args.mappings.now in
    let before = c.split_ending_by.result.0.now in
    let given : Some c.in_ok-start.start ≡ c.args.start = search rules in
    elim c.else-index-mappings.branch [
      | else-index-mappings-via-then-index-mappings+else-mappings-index w ↦
          none-taken c.in_ok-start.start ms before c.split_ending_by.result.1.now c.split_ending_by.ensures.whole c.split_ending_by.ensures.before c.requires
          (length before) refl (get_or ms (length before) none) (search rules) (λ within same. w.if-mappings-index.false (search (rules, same)))
          ∙ ap (λ gone. left_by gone ms) given
      | else-index-mappings-via-else-index-mappings w ↦
          none-taken c.in_ok-start.start ms before c.split_ending_by.result.1.now c.split_ending_by.ensures.whole c.split_ending_by.ensures.before c.requires
          (length before) refl (get_or ms (length before) none) (search rules) (λ within same. let past = w.if-index-mappings.false in omega (arith, within, past))
          ∙ ap (λ gone. left_by gone ms) given
    ]
