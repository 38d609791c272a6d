-- The nearest symbol of sorted ones.
use Rattle.std.proofs.Common.{◌≡◌, ℕ, zero, suc, ◌<◌, ◌≤◌, Bool, true, false, List, [], ◌∷◌, length, Some, None, nat_le, if◌then◌else◌, refl, ap, ◌∙◌, arith}
use Rattle.std.specs.List.{slice_index_or}
use Rattle.std.specs.List.Sorted.{IsNonDecreasingBy}
use Rattle.std.proofs.lemmas.Bool.{le-leb}
use Rattle.framehop_object.specs.declared.elf.symbol.Symbol.{Symbol}
use Rattle.framehop_object.specs.Elf.Symbol.{start_of, later_of, nearest_of}

-- each symbol begins above the address
pub nearest_of-none : (symbols : List Symbol) (address : ℕ)
    → ((k : ℕ) (d : Symbol) → k < length symbols → nat_le (start_of (slice_index_or symbols k d)) address ≡ false)
    → nearest_of symbols address ≡ None
unfolding nearest_of
nearest_of-none [] address above = refl
nearest_of-none (s ∷ symbols) address above =
    ap (λ (b : Bool). if b then later_of s (nearest_of symbols address) else nearest_of symbols address) (above 0 s (omega arith))
    ∙ nearest_of-none symbols address (λ k d h. above (suc k) d (omega (arith, h)))

-- the symbols up to a place begin at or below the address, and those after it above
pub nearest_of-at : (symbols : List Symbol) (address place : ℕ) (e : Symbol) → IsNonDecreasingBy start_of symbols
    → place < length symbols → ((k : ℕ) (d : Symbol) → k ≤ place
    → nat_le (start_of (slice_index_or symbols k d)) address ≡ true)
    → ((k : ℕ) (d : Symbol) → place < k → k < length symbols
    → nat_le (start_of (slice_index_or symbols k d)) address ≡ false)
    → nearest_of symbols address ≡ Some (slice_index_or symbols place e)
unfolding nearest_of
nearest_of-at [] address place e sorted within below above = absurd (omega (arith, within))
nearest_of-at (s ∷ symbols) address zero e sorted within below above =
    ap (λ (b : Bool). if b then later_of s (nearest_of symbols address) else nearest_of symbols address) (below 0 s (omega arith))
    ∙ ap (later_of s) (nearest_of-none symbols address (λ k d h. above (suc k) d (omega arith) (omega (arith, h))))
nearest_of-at (s ∷ symbols) address (suc place) e sorted within below above =
    let t = slice_index_or symbols place e in
    ap (λ (b : Bool). if b then later_of s (nearest_of symbols address) else nearest_of symbols address) (below 0 s (omega arith))
    ∙ ap (later_of s) (nearest_of-at symbols address place e
    (λ i j d h within_j. sorted (suc i) (suc j) d (omega (arith, h)) (omega (arith, within_j)))
    (omega (arith, within)) (λ k d h. below (suc k) d (omega (arith, h)))
    (λ k d h within_k. above (suc k) d (omega (arith, h)) (omega (arith, within_k))))
    ∙ ap (λ (b : Bool). if b then Some t else Some s) (le-leb (start_of s) (start_of t) (sorted 0 (suc place) e (omega arith) within))
