use Rattle.std.proofs.Common.{◌≡◌, length, drop}
use Rattle.framehop_object.specs.Elf.BuildId.{notes_of_segment, first_in}
use Rattle.framehop_object.proofs.elf.build_id.in_segments.Given as goal

abbrev pub invariant-loop-segment : goal.invariant-loop-segment
invariant-loop-segment l =
    first_in (notes_of_segment l.file) (length l.file) l.segments ≡ first_in (notes_of_segment l.file) l.left (drop l.segment-index l.segments)
