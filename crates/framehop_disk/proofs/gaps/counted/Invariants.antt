use Rattle.std.proofs.Common.{◌≡◌, ◌≤◌, ◌++◌, drop}
use Rattle.framehop_disk.specs.Gaps.{are_apart, gaps_of}
use Rattle.framehop_disk.proofs.gaps.counted.Given as goal

-- what the gaps of the parts that are left add to those so far are the gaps of all, and these are apart if those are
abbrev pub invariant-loop-part : goal.invariant-loop-part
invariant-loop-part l = record {
  low : l.so_far ≤ l.last;
  gaps : l.gaps.items ++ gaps_of l.so_far (drop l.part-index l.parts) ≡ gaps_of 0 l.parts;
  apart : are_apart l.last (drop l.part-index l.parts) ≡ are_apart l.from l.parts;
}
