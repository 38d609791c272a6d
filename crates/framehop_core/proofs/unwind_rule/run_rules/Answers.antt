use Rattle.std.proofs.Common.{◌≡◌, true, length, subst, refl, arith}
use Rattle.framehop_core.specs.Runs.{StepsBy}
use Rattle.framehop_core.proofs.Callback.{Answering-then}
use Rattle.framehop_core.proofs.Runs.{StepsBy-more, StepsBy-end, run_of-answered}
use Rattle.framehop_core.proofs.unwind_rule.run_rules.Goals as goal

pub returns-in-Ok-None-clause-advances : goal.returns-in-Ok-None-clause-advances
returns-in-Ok-None-clause-advances g c =
    let kept = rw c.in-Ok-None.field-0-is at c.in-Ok-None.ensures.kept in
    StepsBy-end g.R.UnwindRule.advances c.args.rules.now c.loop-answered.answered c.args.regs.now c.loop-answered.regs c.loop-answered.invariant.1 c.exec.new.regs kept

pub returns-in-Err-clause-advances : goal.returns-in-Err-clause-advances
returns-in-Err-clause-advances g c =
    StepsBy-end g.R.UnwindRule.advances c.args.rules.now c.loop-answered.answered c.args.regs.now c.loop-answered.regs c.loop-answered.invariant.1 c.exec.new.regs c.in-Err.ensures.kept

pub loop-answered-preserved : goal.loop-answered-preserved
loop-answered-preserved g c =
    let l = c.loop-answered in
    let step = rw c.in-Ok-Some.field-0-is at c.in-Ok-Some.ensures.advances in (
      c.in-Ok-Some.ensures.callable,
      λ n new steps. StepsBy-more g.R.UnwindRule.advances c.args.rules.now l.answered c.args.regs.now l.regs l.invariant.1 c.index-rules-answered.result n c.exec.new.regs new c.loop-answered-test.true c.index-rules-answered.is step steps,
      Answering-then g.F.FnMut l.invariant.2 (rw c.in-Ok-Some.field-0-is at c.in-Ok-Some.ensures.answers)
          (λ memory so_far done. run_of-answered g.R.UnwindRule.outcome memory c.args.rules.now l.answered l.regs c.exec.new.regs _ c.index-rules-answered.result c.in-Ok-Some.field-0-0 so_far c.loop-answered-test.true c.index-rules-answered.is done.0 done.1),
    )

pub returns-clause-advances : goal.returns-clause-advances
returns-clause-advances g c =
    let l = c.loop-answered in
    let all : l.answered ≡ length c.args.rules.now = omega arith in
    subst (λ k. StepsBy g.R.UnwindRule.advances true c.args.rules.now k c.args.regs.now l.regs) all (StepsBy-end g.R.UnwindRule.advances c.args.rules.now l.answered c.args.regs.now l.regs l.invariant.1 l.regs refl)
