use Rattle.std.proofs.Common.{◌≡◌, Err, sym, rules, map}
use Rattle.serde_json.specs.View.{view, items_view}
use Rattle.framehop_walk.specs.Refusals.{refusal_text}
use Rattle.framehop_walk.specs.Answers.{architecture}
use Rattle.framehop_walk.proofs.Documents.{other-refusal, under-no_caches, under-no_list, under-refused, under-read}
use Rattle.framehop_walk.proofs.program.replies_under.Goals as goal

pub returns-in_err-cache_count : goal.returns-in_err-cache_count
returns-in_err-cache_count g c =
    let on = architecture g.A.Registers.reading g.A.Registers.text g.A.Unwinding.unwinding in
    let same : c.from_residual.result ≡ Err c.in_err-cache_count.field-0.0 = search rules in
    rw same (λ other. under-no_caches on g.P.AllocationPolicy.policy (view c.args.value.now) (refusal_text c.in_err-cache_count.field-0.0) (sym c.in_err-cache_count.ensures))

pub returns-in_err-list : goal.returns-in_err-list
returns-in_err-list g c =
    let on = architecture g.A.Registers.reading g.A.Registers.text g.A.Unwinding.unwinding in
    let same : c.from_residual-in_err-list.result ≡ Err c.in_err-list.field-0.0 = search rules in
    rw same (λ other. under-no_list on g.P.AllocationPolicy.policy (view c.args.value.now) c.in_ok-cache_count.cache_count (refusal_text c.in_err-list.field-0.0)
    (sym c.in_ok-cache_count.ensures) (sym c.in_err-list.ensures))

pub returns-in_err-verbs : goal.returns-in_err-verbs
returns-in_err-verbs g c =
    let on = architecture g.A.Registers.reading g.A.Registers.text g.A.Unwinding.unwinding in
    let same : c.from_residual-in_err-verbs.result ≡ Err c.in_err-verbs.field-0.0 = search rules in
    λ other.
    let due = other-refusal c.in_err-verbs.field-0.0 c.from_residual-in_err-verbs.result same other in
    rw same (under-refused on g.P.AllocationPolicy.policy (view c.args.value.now) c.in_ok-cache_count.cache_count (items_view c.in_ok-list.field-0.now.items) (refusal_text c.in_err-verbs.field-0.0)
    (sym c.in_ok-cache_count.ensures) (sym c.in_ok-list.ensures) (c.in_err-verbs.ensures due))

pub returns : goal.returns
returns g c = λ other.
    let on = architecture g.A.Registers.reading g.A.Registers.text g.A.Unwinding.unwinding in
    let given = c.in_ok-verbs.ensures in
    under-read on g.P.AllocationPolicy.policy (view c.args.value.now) c.in_ok-cache_count.cache_count (items_view c.in_ok-list.field-0.now.items) given.0 (map (λ v. v.now) c.in_ok-verbs.verbs.items)
    c.in_ok-verbs.commands.items _ (sym c.in_ok-cache_count.ensures) (sym c.in_ok-list.ensures) given.1 given.2 given.3 (rw c.from.ensures at (c.run_commands.ensures other))
