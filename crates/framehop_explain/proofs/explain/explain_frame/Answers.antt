use Rattle.std.proofs.Common.{◌≡◌, Bool, true, false, MatchBool, ap, ◌∙◌}
use Rattle.framehop_core.specs.CodeAddress.{location_of}
use Rattle.framehop_core.proofs.Callback.{Answering-then, Answering-over}
use Rattle.framehop.specs.Unwinding.{answer_by}
use Rattle.framehop_explain.proofs.DecidedLemmas.{decided, readers-by}
use Rattle.framehop_explain.proofs.explain.explain_frame.Goals as goal

-- what a test of a fact says
holds-not : (A B : Type 0) (b : Bool) → MatchBool b A B → b ≡ false → B
holds-not A B true fact is = (let e : true ≡ false = is in cc)
holds-not A B false fact is = fact

pub returns-then-is_out_of_memory-clause-answers : goal.returns-then-is_out_of_memory-clause-answers
returns-then-is_out_of_memory-clause-answers g c =
    Answering-then g.F.FnMut c.in_ok-finding.ensures.answers c.step_fresh-outcome.ensures.answers (λ memory found ran. tt)

pub returns-clause-answers : goal.returns-clause-answers
returns-clause-answers g c =
    Answering-then g.F.FnMut c.in_ok-finding.ensures.answers c.step_fresh-outcome.ensures.answers
    (λ memory found ran. rw c.is_return_address.ensures at found)

pub returns-clause-outcome : goal.returns-clause-outcome
returns-clause-outcome g c = λ memory answers.
    let found = Answering-over g.F.FnMut c.in_ok-finding.ensures.answers memory answers in
    let ran = Answering-over g.F.FnMut c.step_fresh-outcome.ensures.answers memory found.0 in
    ran.1 (holds-not _ _ _ c.is_out_of_memory.ensures c.if-is_out_of_memory.false)

pub returns-clause-decided : goal.returns-clause-decided
returns-clause-decided g c = λ memory answers.
    let found = Answering-over g.F.FnMut c.in_ok-finding.ensures.answers memory answers in
    let ran = Answering-over g.F.FnMut c.step_fresh-outcome.ensures.answers memory found.0 in
    let met = ran.1 (holds-not _ _ _ c.is_out_of_memory.ensures c.if-is_out_of_memory.false) in
    let policy = g.P.AllocationPolicy.policy in
    let limits = g.met.P.AllocationPolicy.is_policy in
    let tells = rw c.is_return_address.ensures at found.1 in
    let covers = rw (c.address_for_lookup.ensures, c.is_return_address.ensures) at c.in_ok-finding.ensures.finding in
    let reads = g.A.Unwinding.answer_is policy ∙ ap (λ x. answer_by x policy) (readers-by _ _ g.met.A.Unwinding.readers_are) in
    decided (g.A.Unwinding.unwinding policy) c.args.unwinder.now.modules (location_of c.args.address) c.args.regs memory _ _ _ policy _ _ _ _ (λ f. f.told) (λ f. f.«module».now) (λ f. f.relative_address) _ _
    reads limits.1 limits.2 (g.met.A.Unwinding.outcome_is policy) (g.met.A.Unwinding.fallback_is policy) covers tells met.0 met.1
