use Rattle.std.proofs.Common.{◌≡◌, ℕ, ◌+◌, nat_eq, true, drop}
use Rattle.framehop_core.specs.Memory.{Answering}
use Rattle.framehop_core.specs.Runs.{run_of, later, StepsBy}
use Rattle.framehop_core.proofs.unwind_rule.run_rules.Given as goal

abbrev pub invariant-loop-answered : goal.invariant-loop-answered
invariant-loop-answered g l =
    goal.F-IsAlwaysCallable g l.read_stack
    × ((n : ℕ) (new : _) → StepsBy g.R.UnwindRule.advances (nat_eq l.answered 0) (drop l.answered l.rules) n l.regs new → StepsBy g.R.UnwindRule.advances true l.rules (l.answered + n) l.fn.regs new)
    × Answering g.F.FnMut l.fn.read_stack l.read_stack (λ memory. later l.answered (run_of g.R.UnwindRule.outcome (nat_eq l.answered 0) (drop l.answered l.rules) l.regs memory) ≡ run_of g.R.UnwindRule.outcome true l.rules l.fn.regs memory)
