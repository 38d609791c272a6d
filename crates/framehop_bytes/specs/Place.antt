-- A place in a table, found by halving.
use Rattle.std.specs.Prelude.{ℕ, zero, suc, ◌+◌, ◌-◌, ◌/◌, ◌<◌, ◌≤◌, List, length, slice_index, nat_le, if◌then◌else◌}

-- from the places low to high, halved until one is left: the upper half where its first start is at or below the
-- address
abbrev pub halved : List ℕ → ℕ → ℕ → ℕ → ℕ → ℕ
halved starts address zero low high = low
halved starts address (suc n) low high =
    if nat_le (high - low) 1 then low
    else (let middle = low + (high - low) / 2 in
    if nat_le (slice_index starts middle) address then halved starts address n middle high
    else halved starts address n low middle)

-- the place of an address in a table of starts
unfoldable pub place_of : List ℕ → ℕ → ℕ
place_of starts address = halved starts address (length starts) 0 (length starts)

-- what holds of the place, however the starts lie: the start there is at or below the address, or it is the first;
-- the next one is above
pub record IsPlace (starts : List ℕ) (address place : ℕ) : Type 0 where
  pub within : place < length starts
  pub below : 0 < place → slice_index starts place ≤ address
  pub above : place + 1 < length starts → address < slice_index starts (place + 1)

-- the starts don't fall
abbrev pub AreOrdered : List ℕ → Type 0
AreOrdered starts = (i j : ℕ) → i ≤ j → j < length starts → slice_index starts i ≤ slice_index starts j
