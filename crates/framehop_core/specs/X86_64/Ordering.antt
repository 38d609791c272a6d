-- The orderings of registers, each of which has a number (framehop 0.16.0, `register_ordering`).
use Rattle.std.specs.Prelude.{◌≡◌, ℕ, zero, suc, ◌<◌, ◌≤◌, ◌/◌, ◌%◌, Bool, ◌&&◌, nat_lt, nat_le, List, [], ◌∷◌, ◌++◌, length, take, drop, swap, ◌≢◌, All, AllPairs, Contains}
use Rattle.framehop_core.specs.declared.x86_64.unwindregs.Reg.{Reg}
use Rattle.framehop_core.specs.declared.x86_64.unwindregs.Reg.TheVariants.{RBX, RBP, RDI, RSI, R12, R13, R14, R15}

-- the registers that a function must hand back to its caller as they were, in the order of the numbering
abbrev pub eight : List Reg
eight = RBX ∷ RBP ∷ RDI ∷ RSI ∷ R12 ∷ R13 ∷ R14 ∷ R15 ∷ []

-- The number is written in digits of the radices k, k - 1, k - 2 and so on, the lowest first, for k places. From the
-- first place on, each place is exchanged with the one its digit after it.
unfoldable pub exchanges : {X : Type 0} → ℕ → ℕ → List X → List X
exchanges zero n places = places
exchanges (suc k) n places =
    let exchanged = swap places 0 (n % suc k) in
    take 1 exchanged ++ exchanges k (n / suc k) (drop 1 exchanged)

-- the ordering of so many registers that has this number
unfoldable pub ordering : ℕ → ℕ → List Reg
ordering count n = take count (exchanges 8 n eight)

-- a count of at most eight, and a number below 8 * 7 * 6 * 5 * 4 * 3 * 2
abbrev pub is_ordering : ℕ → ℕ → Bool
is_ordering count n = nat_le count 8 && nat_lt n 40320

-- registers that have an ordering: no register twice, and each among the eight
pub record IsArrangement (registers : List Reg) : Type 0 where
  pub distinct : AllPairs (λ a b. a ≢ b) registers
  pub among : All (Contains eight) registers

-- the count and the number that stand for an ordering: the least number that it has
pub record IsEncoding (registers : List Reg) (count n : ℕ) : Type 0 where
  pub counted : count ≡ length registers
  pub below : n < 40320
  pub orders : ordering count n ≡ registers
  pub least : (m : ℕ) → ordering count m ≡ registers → n ≤ m
