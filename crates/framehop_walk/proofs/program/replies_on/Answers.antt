use Rattle.std.proofs.Common.{◌≡◌, Ok, Err, sym, rules}
use Rattle.serde_json.specs.View.{view}
use Rattle.framehop.specs.Policy.{with_allocation, without_allocation}
use Rattle.framehop_walk.specs.Refusals.{refusal_text}
use Rattle.framehop_walk.specs.Answers.{architecture, read_policy}
use Rattle.framehop_walk.proofs.Documents.{on-refused, on-policy}
use Rattle.framehop_walk.proofs.program.replies_on.Goals as goal

pub returns-in_err-read_policy : goal.returns-in_err-read_policy
returns-in_err-read_policy g c =
    let on = architecture g.A.Registers.reading g.A.Registers.text g.A.Unwinding.unwinding in
    let same : c.from_residual.result ≡ Err c.in_err-read_policy.field-0.0 = search rules in
    rw same (λ other. on-refused on (view c.args.value.now) (refusal_text c.in_err-read_policy.field-0.0) (sym c.in_err-read_policy.ensures))

pub returns-in-May : goal.returns-in-May
returns-in-May g c = λ other.
    let on = architecture g.A.Registers.reading g.A.Registers.text g.A.Unwinding.unwinding in
    let told : Ok with_allocation ≡ read_policy (view c.args.value.now) = rw c.in-May.is at c.in_ok-read_policy.ensures in
    on-policy on (view c.args.value.now) with_allocation _ (sym told) (c.replies_under.ensures other)

pub returns-in-Must : goal.returns-in-Must
returns-in-Must g c = λ other.
    let on = architecture g.A.Registers.reading g.A.Registers.text g.A.Unwinding.unwinding in
    let told : Ok without_allocation ≡ read_policy (view c.args.value.now) = rw c.in-Must.is at c.in_ok-read_policy.ensures in
    on-policy on (view c.args.value.now) without_allocation _ (sym told) (c.replies_under-in-Must.ensures other)
