use Rattle.std.proofs.Common.{◌≡◌, ℕ, ◌<◌, ◌≤◌, ◌⊎◌, length}
use Rattle.std.specs.BTreeMap.{get}
use Rattle.std.specs.Ordering.{nat_cmp}
use Rattle.framehop_processes.proofs.code_map.clear.Given as goal

abbrev pub invariant-loop-key : goal.invariant-loop-key
invariant-loop-key l =
    (key : ℕ) → (key < l.start) ⊎ (l.end ≤ key) → get nat_cmp l.by_address key ≡ get nat_cmp l.initial.by_address key

abbrev pub decreases-loop-key : goal.decreases-loop-key
decreases-loop-key l = length l.by_address.entries
