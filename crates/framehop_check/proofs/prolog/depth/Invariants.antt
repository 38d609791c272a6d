use Rattle.std.proofs.Common.{◌≡◌, ◌+◌, ◌<◌, ◌^◌}
use Rattle.std.specs.Io.Iter.{u64_saturate}
use Rattle.framehop_pe.specs.Info.{left_codes}
use Rattle.framehop_check.specs.Prolog.{depth}
use Rattle.framehop_check.proofs.prolog.depth.Given as goal

-- the sum so far and the codes that are left make that of all
abbrev pub invariant-loop-code : goal.invariant-loop-code
invariant-loop-code l =
    (u64_saturate (l.sum + depth (left_codes l.code-iterator)) ≡ u64_saturate (depth (left_codes l.codes))) × (l.sum < 2 ^ 64)
