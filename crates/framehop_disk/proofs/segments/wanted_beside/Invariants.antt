use Rattle.std.proofs.Common.{◌≡◌, ◌++◌, drop}
use Rattle.std.specs.List.{flat_map}
use Rattle.framehop_disk.specs.Segments.{pieces_beside}
use Rattle.framehop_disk.proofs.segments.wanted_beside.Given as goal

abbrev pub invariant-loop-segment : goal.invariant-loop-segment
invariant-loop-segment l =
    l.segments.items ++ flat_map (pieces_beside l.mapped) (drop l.segment-index l.loaded) ≡ flat_map (pieces_beside l.mapped) l.loaded
