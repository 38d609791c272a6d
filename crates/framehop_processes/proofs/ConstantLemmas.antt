-- Mappings in order: the last that starts at or below an address is before the place where their starts pass it.
use Rattle.std.proofs.Common.{◌≡◌, ℕ, zero, suc, ◌<◌, ◌≤◌, true, false, nat_le, List, [], ◌∷◌, length, Option, Some, None, slice_index_or, refl, ap, ◌∙◌, ◌==◌, ◌-◌, arith}
use Rattle.std.proofs.lemmas.Bool.Decides.{nat_tests}
use Rattle.std.specs.List.{fold, slice_get}
use Rattle.std.specs.List.Sorted.{IsNonDecreasingBy}
use Rattle.framehop_processes.specs.declared.mapping.Mapping.{Mapping}
use Rattle.framehop_processes.specs.Constants.{later_by, mapping_before}
use Rattle.framehop_processes.specs.Mappings.{IsInOrder}
use Rattle.framehop_processes.proofs.PlaceLemmas.{starts-from}

pub starts-rise : (from : ℕ) (ms : List Mapping) → IsInOrder from ms → IsNonDecreasingBy (λ m. m.start) ms
starts-rise from [] order i j d low within = absurd (omega (arith, within))
starts-rise from (m ∷ ms) order zero zero d low within = omega arith
starts-rise from (m ∷ ms) order zero (suc j) d low within =
    let above = starts-from m.end ms order.2 j d (omega (arith, within)) in
    let own = order.1 in
    omega (arith, above, own)
starts-rise from (m ∷ ms) order (suc i) zero d low within = absurd (omega (arith, low))
starts-rise from (m ∷ ms) order (suc i) (suc j) d low within =
    starts-rise m.end ms order.2 i j d (omega (arith, low)) (omega (arith, within))

-- the mapping before a place, or what was found before them all
pub before : List Mapping → ℕ → Option Mapping → Option Mapping
before ms zero found = found
before ms (suc i) found = slice_get ms i

one-on : (m : Mapping) (ms : List Mapping) (i : ℕ) (found : Option Mapping) → before ms i (Some m) ≡ before (m ∷ ms) (suc i) found
unfolding before
one-on m ms zero found = refl
one-on m ms (suc i) found = refl

module _ (address : ℕ) where
  pub last-before : (ms : List Mapping) (i : ℕ) (found : Option Mapping) → i ≤ length ms
      → ((k : ℕ) (d : Mapping) → k < i → k < length ms → nat_le (slice_index_or ms k d).start address ≡ true)
      → ((k : ℕ) (d : Mapping) → i ≤ k → k < length ms → nat_le (slice_index_or ms k d).start address ≡ false)
      → fold (later_by address) found ms ≡ before ms i found
  unfolding before
  last-before [] zero found few low high = refl
  last-before [] (suc i) found few low high = absurd (omega (arith, few))
  last-before (m ∷ ms) zero found few low high =
      rw (high 0 m (omega arith) (omega arith))
      (last-before ms zero found (omega arith) (λ k d h w. absurd (omega (arith, h))) (λ k d h w. high (suc k) d (omega arith) (omega (arith, w))))
  last-before (m ∷ ms) (suc i) found few low high =
      rw (low 0 m (omega arith) (omega arith))
      (last-before ms i (Some m) (omega (arith, few)) (λ k d h w. low (suc k) d (omega (arith, h)) (omega (arith, w)))
      (λ k d h w. high (suc k) d (omega (arith, h)) (omega (arith, w)))
      ∙ one-on m ms i found)

less-one : (i : ℕ) → i ≡ suc i - 1
less-one i = omega arith

pub is-before : (ms : List Mapping) (i : ℕ) → before ms i None ≡ mapping_before ms i
unfolding before
is-before ms zero = refl
is-before ms (suc i) =
    let some : (suc i == 0) ≡ false = grind (arith, nat_tests) in
    rw some (ap (slice_get ms) (less-one i))
