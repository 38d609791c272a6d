-- Parts of a file that are left out when it is read: what comes after them moves to the front.
use Rattle.std.specs.Prelude.{ℕ, ◌≡◌, ◌≤◌, ◌+◌, ◌-◌, ◌==◌, Bool, true, not, ◌&&◌, nat_le, nat_lt, List, [], ◌∷◌, Option, Some, None, zero, suc, slice_get, ⊤}
use Rattle.std.specs.List.{filter, list_any, sum_by}
use Rattle.std.specs.declared.ops.Range.{Range}
use Rattle.framehop_disk.specs.declared.gaps.Gap.{Gap}
use Rattle.framehop_disk.specs.Wanted.{sum_64}

-- Parts come one after another: each begins where the one before ends, or later, and the first at an offset, or later.
abbrev pub are_apart : ℕ → List (Range ℕ) → Bool
are_apart from [] = true
are_apart from (part ∷ parts) = nat_le from part.start && nat_le part.start part.end && are_apart part.end parts

-- the same of gaps, each of which tells how many bytes are left out up to its end
abbrev pub AreCounted : ℕ → ℕ → List Gap → Type 0
AreCounted from before [] = ⊤
AreCounted from before (gap ∷ gaps) =
    (from ≤ gap.start) × (gap.start ≤ gap.end) × (gap.so_far ≡ before + (gap.end - gap.start)) × AreCounted gap.end gap.so_far gaps

-- the gaps of parts
abbrev pub gaps_of : ℕ → List (Range ℕ) → List Gap
gaps_of before [] = []
gaps_of before (part ∷ parts) =
    record { start = part.start; end = part.end; so_far = before + (part.end - part.start) } ∷ gaps_of (before + (part.end - part.start)) parts

-- how many bytes the first gaps leave out
abbrev pub so_far_of : Option Gap → ℕ
so_far_of (Some gap) = gap.so_far
so_far_of None = 0

abbrev pub so_far_at : List Gap → ℕ → ℕ
so_far_at gaps zero = 0
so_far_at gaps (suc last) = so_far_of (slice_get gaps last)

-- how many bytes are left out before an offset: those of the gaps that end there, or before
abbrev pub left_out_before : List Gap → ℕ → ℕ
left_out_before gaps offset = sum_by (λ gap. gap.end - gap.start) (filter (λ gap. nat_le gap.end offset) gaps)

-- where what has an offset in the file is when they are left out
abbrev pub moved : List Gap → ℕ → ℕ
moved gaps offset = offset - left_out_before gaps offset

-- a gap begins at an offset
abbrev pub begins_at : ℕ → List Gap → Bool
begins_at offset gaps = list_any (λ gap. gap.start == offset) gaps

-- a gap has one of so many bytes from an offset on, or surrounds that place
abbrev pub overlaps : ℕ → ℕ → Gap → Bool
overlaps offset size gap = nat_lt offset gap.end && nat_lt gap.start (sum_64 offset size)

-- so many bytes from an offset on are kept
abbrev pub is_kept : List Gap → ℕ → ℕ → Bool
is_kept gaps offset size = not (list_any (overlaps offset size) gaps)
