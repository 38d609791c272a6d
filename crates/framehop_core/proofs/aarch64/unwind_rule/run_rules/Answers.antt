use Rattle.std.proofs.Common.{subst}
use Rattle.framehop_core.specs.Runs.{Run, after_first, IsCountWithinRise}
use Rattle.framehop_core.specs.Aarch64.Registers.{Registers}
use Rattle.framehop_core.specs.Aarch64.Rules.{outcome}
use Rattle.framehop_core.proofs.Callback.{Answering-so}
use Rattle.framehop_core.proofs.Aarch64Runs.{IsBoundedRun-steps, run_of-within}
use Rattle.framehop_core.proofs.aarch64.unwind_rule.run_rules.Goals as goal

pub returns-clause-bounded : goal.returns-clause-bounded
returns-clause-bounded g c = IsBoundedRun-steps _ _ _ _ c.run_rules.ensures.advances

pub returns-clause-answers : goal.returns-clause-answers
returns-clause-answers g c = Answering-so g.F.FnMut c.run_rules.ensures.answers (λ memory ran.
    let P : Run Registers → Type 0 = λ run. IsCountWithinRise run.count (after_first outcome c.args.rules.now c.args.regs.now memory).sp run.registers.sp in
    (ran, subst P ran (run_of-within c.args.rules.now c.args.regs.now memory)))
