-- A part of starts that don't fall, of which a search leaves a quarter.
use Rattle.std.proofs.Common.{◌≡◌, ℕ, ◌+◌, ◌-◌, ◌*◌, ◌/◌, ◌<◌, ◌≤◌, true, false, List, length, slice_index, nat_le, if◌then◌else◌, le-leb, arith, refl, ⊎_elim}
use Rattle.std.proofs.lemmas.Bool.{cases_lt, lt-leb}
use Rattle.std.proofs.lemmas.List.{get_or_default}
use Rattle.std.specs.List.{AllWithin}
use Rattle.std.specs.List.Sorted.{IsNonDecreasing, IsPartitionPoint}

-- the starts before `low` are at or below the address, and those after so many more are above it
pub record IsBetween (starts : List ℕ) (address low size : ℕ) : Type 0 where
  pub within : low + size ≤ length starts
  pub before : AllWithin (λ start. start ≤ address) starts 0 low
  pub after : AllWithin (λ start. address < start) starts (low + size) (length starts)

pub all-between : (starts : List ℕ) (address : ℕ) → IsBetween starts address 0 (length starts)
all-between starts address = record {
  within = omega arith;
  before = λ k d low up. absurd (omega (arith, up));
  after = λ k d low up. absurd (omega (arith, low, up));
}

pub none-between : (starts : List ℕ) (address low size : ℕ) → size ≡ 0 → IsBetween starts address low size → IsPartitionPoint (λ start. start ≤ address) (λ start. address < start) starts low
none-between starts address low size none is = (is.before, λ k d up within. is.after k d (omega (arith, none, up)) within)

module _ (starts : List ℕ) (address : ℕ) (ordered : IsNonDecreasing starts) where
  -- 1 for a start at or below the address
  abbrev pub counted : ℕ → ℕ
  counted i = if nat_le (slice_index starts i) address then 1 else 0

  one : (i : ℕ) → slice_index starts i ≤ address → counted i ≡ 1
  one i low = let test : nat_le (slice_index starts i) address ≡ true = le-leb _ _ low in rw test refl

  none : (i : ℕ) → address < slice_index starts i → counted i ≡ 0
  none i high = let test : nat_le (slice_index starts i) address ≡ false = lt-leb _ _ high in rw test refl

  -- a start at or below the address, and one above it, show where the others are
  raised : (low i : ℕ) → i < length starts → low ≤ i + 1 → slice_index starts i ≤ address → AllWithin (λ start. start ≤ address) starts 0 low
  raised low i within most is k d from up =
      let risen = ordered k i d (omega (arith, up, most)) within in
      let at = get_or_default starts i d 0 within in
      omega (arith, risen, at, is)

  lowered : (high i : ℕ) → i ≤ high → address < slice_index starts i → AllWithin (λ start. address < start) starts high (length starts)
  lowered high i most is k d from up =
      let risen = ordered i k d (omega (arith, from, most)) up in
      let at = get_or_default starts i d 0 (omega (arith, from, most, up)) in
      omega (arith, risen, at, is)

  -- of two starts, the first one is at or below the address where the second one is
  falls : (i j : ℕ) → i ≤ j → j < length starts → slice_index starts j ≤ address → slice_index starts i ≤ address
  falls i j up within is = omega (arith, ordered i j 0 up within, is)

  pub quartered : (low size quarter : ℕ) → quarter ≡ size / 4 → 3 < size → IsBetween starts address low size
      → IsBetween starts address (low + (counted (low + quarter - 1) + counted (low + 2 * quarter - 1) + counted (low + 3 * quarter - 1)) * quarter) (size - 3 * quarter)
  quartered low size quarter is more part =
      let some : 0 < quarter = omega (arith, is, more) in
      let all : 4 * quarter ≤ size = omega (arith, is) in
      let within : low + size ≤ length starts = part.within in
      let first = low + quarter - 1 in
      let second = low + 2 * quarter - 1 in
      let third = low + 3 * quarter - 1 in
      ⊎_elim
      (λ (high3 : address < slice_index starts third).
      ⊎_elim
      (λ (high2 : address < slice_index starts second).
      ⊎_elim
      (λ (high1 : address < slice_index starts first).
      rw (none first high1, none second high2, none third high3) (record {
        within = omega (arith, within);
        before = λ k d from up. part.before k d from (omega (arith, up));
        after = lowered _ first (omega (arith, all, some)) high1;
      }))
      (λ (low1 : slice_index starts first ≤ address).
      rw (one first low1, none second high2, none third high3) (record {
        within = omega (arith, within, all);
        before = raised _ first (omega (arith, within, all, some)) (omega (arith, some)) low1;
        after = lowered _ second (omega (arith, all, some)) high2;
      }))
      (cases_lt address (slice_index starts first)))
      (λ (low2 : slice_index starts second ≤ address).
      let low1 = falls first second (omega (arith, some)) (omega (arith, within, all, some)) low2 in
      rw (one first low1, one second low2, none third high3) (record {
        within = omega (arith, within, all);
        before = raised _ second (omega (arith, within, all, some)) (omega (arith, some)) low2;
        after = lowered _ third (omega (arith, all, some)) high3;
      }))
      (cases_lt address (slice_index starts second)))
      (λ (low3 : slice_index starts third ≤ address).
      let low2 = falls second third (omega (arith, some)) (omega (arith, within, all, some)) low3 in
      let low1 = falls first third (omega (arith, some)) (omega (arith, within, all, some)) low3 in
      rw (one first low1, one second low2, one third low3) (record {
        within = omega (arith, within, all);
        before = raised _ third (omega (arith, within, all, some)) (omega (arith, some)) low3;
        after = λ k d from up. part.after k d (omega (arith, from, all)) up;
      }))
      (cases_lt address (slice_index starts third))

  pub passed : (low size : ℕ) → 0 < size → IsBetween starts address low size → IsBetween starts address (low + counted low) (size - 1)
  passed low size some part =
      let within : low + size ≤ length starts = part.within in
      ⊎_elim
      (λ (high : address < slice_index starts low).
      rw (none low high) (record {
        within = omega (arith, within);
        before = λ k d from up. part.before k d from (omega (arith, up));
        after = lowered _ low (omega (arith, some)) high;
      }))
      (λ (is : slice_index starts low ≤ address).
      rw (one low is) (record {
        within = omega (arith, within, some);
        before = raised _ low (omega (arith, within, some)) (omega arith) is;
        after = λ k d from up. part.after k d (omega (arith, from, some)) up;
      }))
      (cases_lt address (slice_index starts low))
