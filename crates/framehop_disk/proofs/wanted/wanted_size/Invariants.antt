use Rattle.std.proofs.Common.{◌≡◌, drop}
use Rattle.std.specs.List.{fold}
use Rattle.framehop_disk.specs.Wanted.{sum_64}
use Rattle.framehop_disk.proofs.wanted.wanted_size.Given as goal

abbrev pub invariant-loop-segment : goal.invariant-loop-segment
invariant-loop-segment l =
    fold (λ size segment. sum_64 size segment.wanted) l.size (drop l.segment-index l.segments)
    ≡ fold (λ size segment. sum_64 size segment.wanted) 0 l.segments
