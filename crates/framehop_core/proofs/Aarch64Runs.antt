-- aarch64: how far sp rises over a run of rules.
use Rattle.std.proofs.Common.{◌≡◌, ℕ, zero, suc, ◌+◌, ◌≤◌, true, false, List, [], ◌∷◌, refl, sym, ap, arith}
use Rattle.framehop_core.specs.Memory.{Memory}
use Rattle.framehop_core.specs.Runs.{StepsBy, run_of, after_first, IsCountWithinRise}
use Rattle.framehop_core.specs.Aarch64.Registers.{Registers}
use Rattle.framehop_core.specs.Aarch64.Rules.{outcome, Advances, IsBoundedRun}
use Rattle.framehop_core.specs.Laws.Aarch64.{raises}
use Rattle.framehop_core.specs.declared.aarch64.unwind_rule.UnwindRuleAarch64.{UnwindRuleAarch64}
use Rattle.framehop_core.proofs.Runs.{run_of-bound}

steps-rise : (rules : List UnwindRuleAarch64) (n : ℕ) (old new : Registers) → StepsBy Advances false rules n old new → n + old.sp ≤ new.sp
steps-rise rules zero old new e = let same : old.sp ≡ new.sp = ap (λ t. t.sp) e in omega arith
steps-rise [] (suc n) old new e = elim e [ ]
steps-rise (rule ∷ rules) (suc n) old new (next, step, steps) =
    omega (arith, step.up.rises refl, steps-rise rules n next new steps)

pub IsBoundedRun-steps : (rules : List UnwindRuleAarch64) (n : ℕ) (old new : Registers) → StepsBy Advances true rules n old new → IsBoundedRun rules n old new
IsBoundedRun-steps rules zero old new e =
    let same : old.sp ≡ new.sp = ap (λ t. t.sp) e in
    record { first = old; none = λ no. sym e; step = λ h. absurd (omega arith); not_below = omega arith; within = omega arith }
IsBoundedRun-steps [] (suc n) old new e = elim e [ ]
IsBoundedRun-steps (rule ∷ rules) (suc n) old new (next, step, steps) =
    let rise = steps-rise rules n next new steps in
    record { first = next; none = λ no. absurd (omega arith); step = λ h. step; not_below = omega arith; within = omega arith }

-- the run over a memory is within the rise of sp since its first rule
pub run_of-within : (rules : List UnwindRuleAarch64) (r : Registers) (memory : Memory) → IsCountWithinRise (run_of outcome true rules r memory).count (after_first outcome rules r memory).sp (run_of outcome true rules r memory).registers.sp
run_of-within rules r memory =
    run_of-bound outcome (λ s. s.sp) (λ memory s. Unit {0}) raises rules r memory
