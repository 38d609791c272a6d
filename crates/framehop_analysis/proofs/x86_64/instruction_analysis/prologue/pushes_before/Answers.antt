use Rattle.framehop_analysis.specs.Laws.X86_64.Pushes.{walk-none, walk-back, walk-end}
use Rattle.framehop_analysis.proofs.x86_64.instruction_analysis.prologue.pushes_before.Goals as goal

pub loop-before-init : goal.loop-before-init
loop-before-init c = walk-none _ _

pub loop-before-preserved : goal.loop-before-preserved
loop-before-preserved c = walk-back _ _ _ _ _ c.loop-before.invariant c.in-Some.ensures

pub returns-clause-longest : goal.returns-clause-longest
returns-clause-longest c = walk-end _ _ _ _ c.loop-before.invariant c.in_default.ensures
