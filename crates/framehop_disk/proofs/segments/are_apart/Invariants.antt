use Rattle.std.proofs.Common.{◌≡◌, drop}
use Rattle.framehop_disk.specs.Segments.{are_apart}
use Rattle.framehop_disk.proofs.segments.are_apart.Given as goal

abbrev pub invariant-loop-segment : goal.invariant-loop-segment
invariant-loop-segment l = are_apart l.end (drop l.segment-index l.segments) ≡ are_apart 0 l.segments
