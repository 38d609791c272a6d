use Rattle.std.proofs.Common.{◌≡◌, ◌+◌, ◌<◌, ◌^◌, drop}
use Rattle.std.specs.Io.Iter.{u64_saturate}
use Rattle.framehop_check.specs.Missing.{bytes_in}
use Rattle.framehop_check.proofs.missing.bytes_in.Given as goal

-- the sum so far and the ranges that are left make that of all
abbrev pub invariant-loop-range : goal.invariant-loop-range
invariant-loop-range l =
    (u64_saturate (l.sum + bytes_in (drop l.range-index l.ranges)) ≡ u64_saturate (bytes_in l.ranges)) × (l.sum < 2 ^ 64)
