use Rattle.std.proofs.Common.{length, ◌-◌}
use Rattle.framehop_analysis.specs.Laws.X86_64.Pops.{IsReadUpTo}
use Rattle.framehop_analysis.proofs.x86_64.instruction_analysis.epilogue.detect_epilogue.Given as goal

abbrev pub invariant-loop-size : goal.invariant-loop-size
invariant-loop-size l = IsReadUpTo l.text_bytes l.pc_offset l.at (record { count = l.pops; before_bp = l.pops_before_bp })

abbrev pub decreases-loop-size : goal.decreases-loop-size
decreases-loop-size l = length l.text_bytes - l.at
