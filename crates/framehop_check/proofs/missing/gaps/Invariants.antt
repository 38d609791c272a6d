use Rattle.std.proofs.Common.{◌≡◌, ◌<◌, ◌++◌, drop}
use Rattle.framehop_check.proofs.MissingLemmas.{gaps_from, reach_from}
use Rattle.framehop_check.proofs.missing.gaps.Given as goal

-- the gaps so far and those that are left are all gaps
abbrev pub invariant-loop-range : goal.invariant-loop-range
invariant-loop-range l = record {
  gaps : l.gaps.items ++ gaps_from 0xffff_ffff_ffff_ffff l.at (drop l.range-index l.range-items)
      ≡ gaps_from 0xffff_ffff_ffff_ffff 0 l.range-items;
  reach : reach_from l.at (drop l.range-index l.range-items) ≡ reach_from 0 l.range-items;
  fits : l.at < 0x1_0000_0000_0000_0000;
}
