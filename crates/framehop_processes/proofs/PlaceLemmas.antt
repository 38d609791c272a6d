-- Mappings in order: the one that has an address is at the place where their ends pass it.
use Rattle.std.proofs.Common.{◌≡◌, ℕ, zero, suc, ◌<◌, ◌≤◌, Bool, true, false, cond, nat_le, List, [], ◌∷◌, length, Some, None, slice_index_or, refl, arith}
use Rattle.std.proofs.lemmas.Bool.{leb-true, leb-false, lt-leb, le-ltb, lt-ltb}
use Rattle.std.specs.Prelude.{◌&&◌}
use Rattle.std.specs.List.{find, slice_get}
use Rattle.std.specs.List.Sorted.{IsNonDecreasingBy}
use Rattle.framehop_processes.specs.declared.mapping.Mapping.{Mapping}
use Rattle.framehop_processes.specs.Mappings.{IsInOrder}
use Rattle.framehop_processes.specs.Place.{has_address, starting_by}

pub starts-from : (from : ℕ) (ms : List Mapping) → IsInOrder from ms → (k : ℕ) (d : Mapping) → k < length ms
    → from ≤ (slice_index_or ms k d).start
starts-from from [] order k d within = absurd (omega (arith, within))
starts-from from (m ∷ ms) order zero d within = order.0
starts-from from (m ∷ ms) order (suc k) d within =
    let rest = starts-from m.end ms order.2 k d (omega (arith, within)) in
    let own = order.1 in
    let first = order.0 in
    omega (arith, rest, own, first)

not-empty : (from : ℕ) (ms : List Mapping) → IsInOrder from ms → (k : ℕ) (d : Mapping) → k < length ms
    → (slice_index_or ms k d).start < (slice_index_or ms k d).end
not-empty from [] order k d within = absurd (omega (arith, within))
not-empty from (m ∷ ms) order zero d within = order.1
not-empty from (m ∷ ms) order (suc k) d within = not-empty m.end ms order.2 k d (omega (arith, within))

pub ends-rise : (from : ℕ) (ms : List Mapping) → IsInOrder from ms → IsNonDecreasingBy (λ m. m.end) ms
ends-rise from [] order i j d low within = absurd (omega (arith, within))
ends-rise from (m ∷ ms) order zero zero d low within = omega arith
ends-rise from (m ∷ ms) order zero (suc j) d low within =
    let above = starts-from m.end ms order.2 j d (omega (arith, within)) in
    let own = not-empty m.end ms order.2 j d (omega (arith, within)) in
    omega (arith, above, own)
ends-rise from (m ∷ ms) order (suc i) zero d low within = absurd (omega (arith, low))
ends-rise from (m ∷ ms) order (suc i) (suc j) d low within =
    ends-rise m.end ms order.2 i j d (omega (arith, low)) (omega (arith, within))

and-false : (b : Bool) → (b && false) ≡ false
and-false true = refl
and-false false = refl

module _ (address : ℕ) where
  above : (m : Mapping) → address < m.start → has_address address m ≡ false
  above m over = rw (lt-leb m.start address over) refl

  passed : (m : Mapping) → nat_le m.end address ≡ true → has_address address m ≡ false
  passed m ends = rw (le-ltb address m.end (leb-true m.end address ends)) (and-false (nat_le m.start address))

  none-above : (from : ℕ) (ms : List Mapping) → address < from → IsInOrder from ms → find (has_address address) ms ≡ None
  none-above from [] over order = refl
  none-above from (m ∷ ms) over order =
      let first = order.0 in
      let own = order.1 in
      rw (above m (omega (arith, over, first))) (none-above m.end ms (omega (arith, over, first, own)) order.2)

  at-head-by : (m : Mapping) (ms : List Mapping) → IsInOrder m.end ms → address < m.end
      → (b : Bool) → nat_le m.start address ≡ b → find (has_address address) (m ∷ ms) ≡ cond b (Some m) None
  at-head-by m ms order within true starts = rw (starts, lt-ltb address m.end within) refl
  at-head-by m ms order within false starts =
      rw (above m (leb-false m.start address starts)) (none-above m.end ms within order)

  at-head : (m : Mapping) (ms : List Mapping) → IsInOrder m.end ms → nat_le m.end address ≡ false
      → find (has_address address) (m ∷ ms) ≡ starting_by address (Some m)
  at-head m ms order ends = at-head-by m ms order (leb-false m.end address ends) (nat_le m.start address) refl

  pub found-at : (from : ℕ) (ms : List Mapping) (i : ℕ) → IsInOrder from ms
      → ((k : ℕ) (d : Mapping) → k < i → k < length ms → nat_le (slice_index_or ms k d).end address ≡ true)
      → ((k : ℕ) (d : Mapping) → i ≤ k → k < length ms → nat_le (slice_index_or ms k d).end address ≡ false)
      → find (has_address address) ms ≡ starting_by address (slice_get ms i)
  found-at from [] zero order before after = refl
  found-at from [] (suc i) order before after = refl
  found-at from (m ∷ ms) zero order before after = at-head m ms order.2 (after 0 m (omega arith) (omega arith))
  found-at from (m ∷ ms) (suc i) order before after =
      rw (passed m (before 0 m (omega arith) (omega arith)))
      (found-at m.end ms i order.2 (λ k d h w. before (suc k) d (omega arith) (omega arith))
      (λ k d h w. after (suc k) d (omega arith) (omega arith)))
