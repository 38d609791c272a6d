use Rattle.std.proofs.Common.{subst, true}
use Rattle.framehop_core.specs.Runs.{Run, after_first, IsCountWithinRise}
use Rattle.framehop_core.specs.X86_64.Registers.{Registers}
use Rattle.framehop_core.specs.X86_64.Rules.{outcome}
use Rattle.framehop_core.proofs.Callback.{Answering-so}
use Rattle.framehop_core.proofs.X86_64Runs.{steps-not_below, run_of-within}
use Rattle.framehop_core.proofs.x86_64.unwind_rule.run_rules.Goals as goal

pub returns-clause-not_below : goal.returns-clause-not_below
returns-clause-not_below g c = steps-not_below true _ _ _ _ c.run_rules.ensures.advances

pub returns-clause-answers : goal.returns-clause-answers
returns-clause-answers g c = Answering-so g.F.FnMut c.run_rules.ensures.answers (λ memory ran.
    let P : Run Registers → Type 0 = λ run. IsCountWithinRise run.count (after_first outcome c.args.rules.now c.args.regs.now memory).rsp run.registers.rsp in
    (ran, subst P ran (run_of-within c.args.rules.now c.args.regs.now memory)))
