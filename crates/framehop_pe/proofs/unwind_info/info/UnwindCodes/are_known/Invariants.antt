use Rattle.std.proofs.Common.{◌≡◌, length}
use Rattle.framehop_pe.specs.Codes.{read_codes}
use Rattle.framehop_pe.proofs.unwind_info.info.UnwindCodes.are_known.Given as goal

abbrev pub invariant-loop-size : goal.invariant-loop-size
invariant-loop-size l = (read_codes l.self.has_frame_register 0 l.bytes).1 ≡ (read_codes l.self.has_frame_register 0 l.self.bytes.now).1

abbrev pub decreases-loop-size : goal.decreases-loop-size
decreases-loop-size l = length l.bytes
