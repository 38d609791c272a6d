use Rattle.std.proofs.Common.{◌≡◌, ◌||◌, length}
use Rattle.framehop_pe.specs.Info.{left_codes, from_first, skips_frame}
use Rattle.framehop_pe.proofs.unwind_info.info.UnwindCodes.skip_beyond.Given as goal

abbrev pub invariant-loop-code : goal.invariant-loop-code
invariant-loop-code l =
    (from_first l.offset (left_codes l.self) ≡ from_first l.offset (left_codes l.initial.self))
    × ((l.skips_frame || skips_frame l.offset (left_codes l.self)) ≡ skips_frame l.offset (left_codes l.initial.self))

abbrev pub decreases-loop-code : goal.decreases-loop-code
decreases-loop-code l = length l.self.bytes.now
