use Rattle.framehop_analysis.specs.Laws.X86_64.Pushes.{IsWalked}
use Rattle.framehop_analysis.proofs.x86_64.instruction_analysis.prologue.pushes_before.Given as goal

abbrev pub invariant-loop-before : goal.invariant-loop-before
invariant-loop-before l = IsWalked l.text_bytes l.pc_offset l.start l.pushes

abbrev pub decreases-loop-before : goal.decreases-loop-before
decreases-loop-before l = l.start
