-- Mappings as a tree.
use Rattle.std.specs.Prelude.{ℕ, ◌≡◌, ◌+◌, ◌-◌, ◌*◌, ◌^◌, Bool, nat_lt, List, [], ◌∷◌, ◌++◌, length, min}
use Rattle.framehop_processes.specs.declared.mapping.Mapping.{Mapping}
use Rattle.framehop_processes.specs.declared.shared.Node.{Node}
use Rattle.framehop_processes.specs.declared.shared.Node.TheVariants.{Empty, Fork}

-- the mappings of a tree, in order: those before the one at its fork, that, and those after it
abbrev pub listed : Node → List Mapping
listed Empty = []
listed (Fork before mapping after count) = before.value ++ mapping ∷ after.value

-- a fork knows how many they are, of at most 2^64 - 1
abbrev pub IsCounted : Node → Type 0
IsCounted Empty = Unit {0}
IsCounted (Fork before mapping after count) = count ≡ min (length (before.value ++ mapping ∷ after.value)) (2 ^ 64 - 1)

-- One side of a fork outweighs the other where it has more than 3 times its weight, which is one more than how many mappings
-- a side has (Y. Hirai, K. Yamamoto, "Balancing weight-balanced trees", Journal of Functional Programming 21 (2011): 3 is the Δ
-- of the trees of J. Nievergelt and E. M. Reingold).
abbrev pub outweighs : ℕ → ℕ → Bool
outweighs count other = nat_lt (3 * (other + 1)) (count + 1)
