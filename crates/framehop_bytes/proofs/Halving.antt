-- A part of a table that is halved, and the turns of the halving.
use Rattle.std.proofs.Common.{◌≡◌, ℕ, zero, suc, ◌+◌, ◌-◌, ◌/◌, ◌<◌, ◌≤◌, true, false, List, length, slice_index, nat_le, le-leb, arith, refl, sym, ◌∙◌, rules}
use Rattle.framehop_bytes.specs.Place.{place_of, halved}

-- the place of an address is among so many places from `low` on; none is left where the first start is above it
pub record IsPart (starts : List ℕ) (address low size : ℕ) : Type 0 where
  pub begun : low < length starts
  pub within : low + size ≤ length starts
  pub below : 0 < low → slice_index starts low ≤ address
  pub above : 0 < size → low + size < length starts → address < slice_index starts (low + size)
  pub left : size ≡ 0 → low + 1 < length starts → address < slice_index starts (low + 1)
  pub reached : (n : ℕ) × (size ≤ n) × (halved starts address n low (low + size) ≡ place_of starts address)

-- one place at most is not halved any more
pub small : (starts : List ℕ) (address low size n : ℕ) → size ≤ 1 → halved starts address n low (low + size) ≡ low
small starts address low size zero few = refl
small starts address low size (suc n) few =
    let all : low + size - low ≡ size = omega arith in
    let one : nat_le size 1 ≡ true = le-leb _ _ few in
    rw (all, one) refl

-- a turn, where the upper half is taken and where the lower one is
upper : (starts : List ℕ) (address low size n : ℕ) → 1 < size → nat_le (slice_index starts (low + size / 2)) address ≡ true → halved starts address (suc n) low (low + size) ≡ halved starts address n (low + size / 2) (low + size)
upper starts address low size n more is =
    let all : low + size - low ≡ size = omega arith in
    let some : nat_le size 1 ≡ false = search rules in
    rw (all, some, is) refl

lower : (starts : List ℕ) (address low size n : ℕ) → 1 < size → nat_le (slice_index starts (low + size / 2)) address ≡ false → halved starts address (suc n) low (low + size) ≡ halved starts address n low (low + size / 2)
lower starts address low size n more is =
    let all : low + size - low ≡ size = omega arith in
    let some : nat_le size 1 ≡ false = search rules in
    rw (all, some, is) refl

reached-upper : (starts : List ℕ) (address low size n place : ℕ) → 1 < size → nat_le (slice_index starts (low + size / 2)) address ≡ true → size ≤ n → halved starts address n low (low + size) ≡ place → (m : ℕ) × ((size + 1) / 2 ≤ m) × (halved starts address m (low + size / 2) (low + size / 2 + (size + 1) / 2) ≡ place)
reached-upper starts address low size zero place more is enough same = absurd (omega arith)
reached-upper starts address low size (suc n) place more is enough same =
    let all : low + size / 2 + (size + 1) / 2 ≡ low + size = omega arith in
    (n, omega arith, rw all (sym (upper starts address low size n more is) ∙ same))

reached-lower : (starts : List ℕ) (address low size n place : ℕ) → 1 < size → nat_le (slice_index starts (low + size / 2)) address ≡ false → size ≤ n → halved starts address n low (low + size) ≡ place → (m : ℕ) × (size / 2 ≤ m) × (halved starts address m low (low + size / 2) ≡ place)
reached-lower starts address low size zero place more is enough same = absurd (omega arith)
reached-lower starts address low size (suc n) place more is enough same =
    (n, omega arith, sym (lower starts address low size n more is) ∙ same)

pub upper-part : (starts : List ℕ) (address low size : ℕ) → IsPart starts address low size → slice_index starts (low + size / 2) ≤ address → IsPart starts address (low + size / 2) ((size + 1) / 2)
upper-part starts address low zero part is =
    let same : low + 0 / 2 ≡ low = omega arith in
    let none : (0 + 1) / 2 ≡ 0 = omega arith in
    rw (same, none) part
upper-part starts address low (suc zero) part is =
    let same : low + 1 / 2 ≡ low = omega arith in
    let one : (1 + 1) / 2 ≡ 1 = omega arith in
    rw (same, one) part
upper-part starts address low (suc (suc rest)) part is =
    let size = suc (suc rest) in
    let more : 1 < size = omega arith in
    let all : low + size / 2 + (size + 1) / 2 ≡ low + size = omega arith in
    let within : low + size ≤ length starts = part.within in
    record {
      begun = omega (arith, within, more);
      within = rw all within;
      below = λ h. is;
      above = λ some h. rw all (part.above (omega arith) (omega (arith, all, h)));
      left = λ none. absurd (omega (arith, none));
      reached = reached-upper starts address low size part.reached.0 (place_of starts address) more (le-leb _ _ is) part.reached.1 part.reached.2;
    }

pub lower-part : (starts : List ℕ) (address low size : ℕ) → IsPart starts address low size → address < slice_index starts (low + size / 2) → IsPart starts address low (size / 2)
lower-part starts address low zero part is =
    let none : 0 / 2 ≡ 0 = omega arith in
    rw none part
lower-part starts address low (suc zero) part is =
    let none : 1 / 2 ≡ 0 = omega arith in
    let one = part.within in
    rw none (record {
      begun = part.begun;
      within = omega (arith, part.begun);
      below = part.below;
      above = λ some. absurd (omega (arith, some));
      left = λ is-none more. part.above (omega arith) more;
      reached = (0, omega arith, sym (small starts address low 1 part.reached.0 (omega arith)) ∙ part.reached.2);
    })
lower-part starts address low (suc (suc rest)) part is =
    let size = suc (suc rest) in
    let more : 1 < size = omega arith in
    let not : nat_le (slice_index starts (low + size / 2)) address ≡ false = search (rules, is) in
    let within : low + size ≤ length starts = part.within in
    record {
      begun = part.begun;
      within = omega (arith, within, more);
      below = part.below;
      above = λ some h. is;
      left = λ none. absurd (omega (arith, none));
      reached = reached-lower starts address low size part.reached.0 (place_of starts address) more not part.reached.1 part.reached.2;
    }
