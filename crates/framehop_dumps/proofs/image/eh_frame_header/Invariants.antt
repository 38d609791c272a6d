use Rattle.std.proofs.Common.{◌≡◌, drop}
use Rattle.std.specs.List.{find}
use Rattle.framehop_dumps.specs.Image.{is_eh_frame_header}
use Rattle.framehop_dumps.proofs.image.eh_frame_header.Given as goal

abbrev pub invariant-loop-segment : goal.invariant-loop-segment
invariant-loop-segment l =
    find is_eh_frame_header l.segments ≡ find is_eh_frame_header (drop l.segment-index l.segments)
