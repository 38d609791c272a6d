use Rattle.std.proofs.Common.{◌≡◌, ℕ, ◌+◌, ◌*◌, ◌^◌, ◌<◌, ◌≤◌, get_or}
use Rattle.framehop_cfi.specs.Leb128.{sum_of_groups}
use Rattle.framehop_cfi.proofs.leb128.read_groups.Given as goal

abbrev pub invariant-loop-count : goal.invariant-loop-count
invariant-loop-count l = record {
  place : l.next ≡ l.at + l.count;
  continued : (k : ℕ) → k < l.count → 128 ≤ get_or l.bytes (l.at + k) 0;
  sum_so_far : l.sum ≡ sum_of_groups l.bytes l.at l.count;
  below : l.sum < 2 ^ (7 * l.count);
}
