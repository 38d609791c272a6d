-- The code that no FDE covers, by ranges of addresses (SVMA). A range has the addresses from its start to before its end.
use Rattle.std.specs.Prelude.{ℕ, ◌-◌, ◌*◌, ◌/◌, ◌<◌, ◌≤◌, ◌≡◌, Bool, true, false, not, ◌&&◌, ◌||◌, if◌then◌else◌, List, [], ◌∷◌, nat_le, nat_lt, nat_eq, map, sum}
use Rattle.std.specs.List.{list_any}
use Rattle.framehop_check.specs.declared.missing.Range.{Range}

-- an address is in a range, and in one of several
abbrev pub has : ℕ → Range → Bool
has address range = nat_le range.start address && nat_lt address range.end

abbrev pub is_in : List Range → ℕ → Bool
is_in ranges address = list_any (has address) ranges

-- an address is missing: it is code, and no FDE covers it
abbrev pub is_missing : List Range → List Range → ℕ → Bool
is_missing code covered address = is_in code address && not (is_in covered address)

-- a range begins at an address
abbrev pub begins_at : ℕ → Range → Bool
begins_at address range = nat_eq range.start address

abbrev pub begins : List Range → ℕ → Bool
begins ranges address = list_any (begins_at address) ranges

-- each of the ranges has an address, and they come one after another, from an address on
abbrev pub IsInOrderFrom : ℕ → List Range → Type 0
IsInOrderFrom from [] = Unit {0}
IsInOrderFrom from (range ∷ ranges) = (from ≤ range.start) × (range.start < range.end) × IsInOrderFrom range.end ranges

abbrev pub IsInOrder : List Range → Type 0
IsInOrder ranges = IsInOrderFrom 0 ranges

-- A missing range is as long as it can be: what covers begins nowhere inside it, and where it ends nothing is missing, or
-- what covers begins. So a range of no addresses, which covers none, divides what is missing.
pub record IsWhole (code covered : List Range) (range : Range) : Type 0 where
  pub undivided : (address : ℕ) → range.start < address → address < range.end → begins covered address ≡ false
  pub ends : is_missing code covered range.end ≡ true → begins covered range.end ≡ true

-- where functions begin and where they end, as ranges of no addresses
abbrev pub empty_at : ℕ → Range
empty_at address = record { start = address; end = address }

abbrev pub bounds_of : List Range → List Range
bounds_of [] = []
bounds_of (function ∷ functions) = empty_at function.start ∷ (empty_at function.end ∷ bounds_of functions)

-- the addresses from one to before another, if there are any
abbrev pub gap_between : ℕ → ℕ → List Range
gap_between start end = if nat_lt start end then (record { start = start; end = end }) ∷ [] else []

-- a gap between ranges: they begin nowhere inside it, and one begins where it ends, or no address of 64 bits is after that
pub record IsGap (ranges : List Range) (gap : Range) : Type 0 where
  pub undivided : (address : ℕ) → gap.start < address → address < gap.end → begins ranges address ≡ false
  pub ends : begins ranges gap.end || nat_eq gap.end 0xffff_ffff_ffff_ffff ≡ true

-- how many bytes a range has, and several that come one after another
abbrev pub size_of : Range → ℕ
size_of range = range.end - range.start

abbrev pub bytes_in : List Range → ℕ
bytes_in ranges = sum (map size_of ranges)

-- a part of a whole in tenths of a percent, rounded down; of nothing it is none
abbrev pub share : ℕ → ℕ → ℕ
share part whole = if nat_eq whole 0 then 0 else (part * 1000) / whole
