use Rattle.std.proofs.Common.{◌≡◌, ℕ, ◌+◌, ◌-◌, ◌*◌, ◌<◌, ◌≤◌, ◌^◌, length, map}
use Rattle.framehop_dwarf.specs.Index.{pairs_of, pair_of_key}
use Rattle.framehop_dwarf.proofs.Walk.{left}
use Rattle.framehop_dwarf.proofs.index.read_keys.Given as goal

abbrev pub invariant-loop-at : goal.invariant-loop-at
invariant-loop-at l = record {
  same : l.cies ≡ l.section;
  few : (4 * length l.keys.items ≤ l.at) × (length l.keys.items ≤ 2 ^ 30);
  rest : (n : ℕ) × (length l.section.bytes < n + l.at) × (left l.section l.base_svma (map pair_of_key l.keys.items) n l.at ≡ pairs_of l.section l.base_svma);
}

abbrev pub decreases-loop-at : goal.decreases-loop-at
decreases-loop-at l = length l.section.bytes - l.at
