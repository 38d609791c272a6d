-- The mappings of a process, in order of start.
use Rattle.std.specs.Prelude.{ℕ, ◌+◌, ◌<◌, ◌≤◌, ◌==◌, Bool, not, Option, Some, None, option_map, find, nat_le, nat_lt, List, [], ◌∷◌, ◌++◌, length, map, filter, min, max, ◌&&◌}
use Rattle.framehop_processes.specs.declared.mapping.Mapping.{Mapping}

-- each has an address, and starts at or after the end of the one before it, the first at or after an address
abbrev pub IsInOrder : ℕ → List Mapping → Type 0
IsInOrder from [] = Unit {0}
IsInOrder from (m ∷ mappings) = (from ≤ m.start) × (m.start < m.end) × IsInOrder m.end mappings

-- the part of a mapping that lies below an address, and the part that lies at or above one: of the same file, with its
-- bytes at the same addresses
abbrev pub part_below : ℕ → Mapping → Mapping
part_below address m = record m { end = min m.end address }

abbrev pub part_above : ℕ → Mapping → Mapping
part_above address m = record m { start = max m.start address }

-- what of mappings lies below an address, and at or above one
abbrev pub below : ℕ → List Mapping → List Mapping
below address mappings = map (part_below address) (filter (λ m. nat_lt m.start address) mappings)

abbrev pub above : ℕ → List Mapping → List Mapping
above address mappings = map (part_above address) (filter (λ m. nat_lt address m.end) mappings)

-- A new mapping in the place of what it overlaps: of each other, what lies before and after the new one stays (mmap(2),
-- MAP_FIXED: the overlapped part of existing mappings is discarded; munmap(2): what is left of a mapping is mapped still).
abbrev pub with_mapping : Mapping → List Mapping → List Mapping
with_mapping new mappings = below new.start mappings ++ new ∷ above new.end mappings

-- the greatest end, or 0 where there is no mapping
abbrev pub greatest_end_of : List Mapping → ℕ
greatest_end_of [] = 0
greatest_end_of (m ∷ mappings) = max m.end (greatest_end_of mappings)

-- a mapping has an address
abbrev pub covers : ℕ → Mapping → Bool
covers address m = nat_le m.start address && nat_lt address m.end

-- what is mapped: which file, at which base, and whether with its sections
abbrev pub content : Mapping → ℕ × ℕ × Bool
content m = (m.file, m.base_avma, m.has_sections)

-- what is mapped at an address
abbrev pub mapped_at : ℕ → List Mapping → Option (ℕ × ℕ × Bool)
mapped_at address mappings = option_map content (find (covers address) mappings)

-- those that end at or below an address, and those that start at or above one
abbrev pub ending_by : ℕ → List Mapping → List Mapping
ending_by address mappings = filter (λ m. nat_le m.end address) mappings

abbrev pub starting_from : ℕ → List Mapping → List Mapping
starting_from address mappings = filter (λ m. nat_le address m.start) mappings

-- a mapping has an address of the new one
abbrev pub overlaps : Mapping → Mapping → Bool
overlaps new m = nat_lt m.start new.end && nat_lt new.start m.end

-- those that have
abbrev pub overlapped : Mapping → List Mapping → List Mapping
overlapped new mappings = filter (overlaps new) mappings

-- those that start elsewhere than at an address, if one is given
abbrev pub starting_elsewhere : ℕ → List Mapping → List Mapping
starting_elsewhere start mappings = filter (λ m. not (m.start == start)) mappings

abbrev pub left_by : Option ℕ → List Mapping → List Mapping
left_by (Some start) mappings = starting_elsewhere start mappings
left_by None mappings = mappings

-- How many modules go and come with a new mapping: that of each overlapped one goes, and those of the new one and of what
-- it leaves of them come.
abbrev pub changed_modules : Mapping → List Mapping → ℕ
changed_modules new mappings =
    let before = overlapped new mappings in
    length before + length (with_mapping new before)
