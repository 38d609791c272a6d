-- x86_64: how far rsp rises over a run of rules.
use Rattle.std.proofs.Common.{◌≡◌, ℕ, zero, suc, ◌≤◌, Bool, true, false, List, [], ◌∷◌, ap, arith}
use Rattle.framehop_core.specs.Memory.{Memory}
use Rattle.framehop_core.specs.Runs.{StepsBy, run_of, after_first, IsCountWithinRise}
use Rattle.framehop_core.specs.X86_64.Registers.{Registers}
use Rattle.framehop_core.specs.X86_64.Rules.{outcome, Advances, StandsAfterReturn}
use Rattle.framehop_core.specs.Laws.X86_64.{raises}
use Rattle.framehop_core.specs.declared.x86_64.unwind_rule.UnwindRuleX86_64.{UnwindRuleX86_64}
use Rattle.framehop_core.proofs.Runs.{run_of-bound}

pub steps-not_below : (first : Bool) (rules : List UnwindRuleX86_64) (n : ℕ) (old new : Registers) → StepsBy (λ (_ : UnwindRuleX86_64). Advances) first rules n old new → old.rsp ≤ new.rsp
steps-not_below first rules zero old new e = let same : old.rsp ≡ new.rsp = ap (λ s. s.rsp) e in omega arith
steps-not_below first [] (suc n) old new e = elim e [ ]
steps-not_below first (rule ∷ rules) (suc n) old new (next, step, steps) =
    omega (arith, step.not_below, steps-not_below false rules n next new steps)

-- the run over a memory is within the rise of rsp since its first rule
pub run_of-within : (rules : List UnwindRuleX86_64) (r : Registers) (memory : Memory) → IsCountWithinRise (run_of outcome true rules r memory).count (after_first outcome rules r memory).rsp (run_of outcome true rules r memory).registers.rsp
run_of-within rules r memory =
    run_of-bound outcome (λ s. s.rsp) StandsAfterReturn raises rules r memory
