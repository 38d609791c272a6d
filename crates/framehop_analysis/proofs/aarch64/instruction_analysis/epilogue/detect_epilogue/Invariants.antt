use Rattle.std.proofs.Common.{length, ◌-◌}
use Rattle.framehop_analysis.specs.Aarch64.Detector.{places_of}
use Rattle.framehop_analysis.proofs.Aarch64Ends.{IsReadUpTo}
use Rattle.framehop_analysis.proofs.aarch64.instruction_analysis.epilogue.detect_epilogue.Given as goal

abbrev pub invariant-loop-word : goal.invariant-loop-word
invariant-loop-word l = IsReadUpTo l.text_bytes l.pc_offset l.at (places_of l.detector)

abbrev pub decreases-loop-word : goal.decreases-loop-word
decreases-loop-word l = length l.text_bytes - l.at
