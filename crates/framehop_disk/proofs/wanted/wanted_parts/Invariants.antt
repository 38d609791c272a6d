use Rattle.std.proofs.Common.{◌≡◌, ◌++◌, drop}
use Rattle.framehop_disk.specs.Wanted.{parts_from}
use Rattle.framehop_disk.proofs.wanted.wanted_parts.Given as goal

abbrev pub invariant-loop-segment : goal.invariant-loop-segment
invariant-loop-segment l = l.parts.items ++ parts_from l.offset (drop l.segment-index l.segments) ≡ parts_from 0 l.segments
