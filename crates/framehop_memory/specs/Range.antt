-- Ranges of memory, each of which begins at an address and at an offset of a file.
use Rattle.std.specs.Prelude.{◌≡◌, ℕ, ◌+◌, ◌-◌, ◌<◌, ◌≤◌, List, length, take, drop, min, Option, Some, None, Bool, ◌&&◌, nat_le, sum_by, slice_index_or}
use Rattle.framehop_memory.specs.declared.memory.MemoryRange.{MemoryRange}

-- the bytes of a range that the file has: fewer where the file is cut off
abbrev pub dumped : List ℕ → MemoryRange → List ℕ
dumped file range = take range.size (drop range.offset file)

-- a range has so many bytes from an address on
abbrev pub has : List ℕ → ℕ → ℕ → MemoryRange → Bool
has file address size range =
    nat_le range.start address && nat_le (address + size) (range.start + length (dumped file range))

-- how many bytes of a range count: of a file of so many bytes those that it has, and else all
abbrev pub available : Option ℕ → MemoryRange → ℕ
available None range = range.size
available (Some file_size) range = min range.size (file_size - range.offset)

-- as many from an address on
abbrev pub has_available : Option ℕ → ℕ → ℕ → MemoryRange → Bool
has_available file_size address size range =
    nat_le range.start address && nat_le (address + size) (range.start + available file_size range)

-- where a range begins
abbrev pub start_of : MemoryRange → ℕ
start_of range = range.start

-- each range ends before those after it begin
abbrev pub AreApart : List MemoryRange → Type 0
AreApart ranges = (i j : ℕ) (d : MemoryRange) → i < j → j < length ranges →
    (slice_index_or ranges i d).start + (slice_index_or ranges i d).size ≤ (slice_index_or ranges j d).start

-- the same ranges in another order: each sum over them is the same
abbrev pub AreReordered : List MemoryRange → List MemoryRange → Type 0
AreReordered ranges others = (f : MemoryRange → ℕ) → sum_by f others ≡ sum_by f ranges
