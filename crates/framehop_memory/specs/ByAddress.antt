-- Where segments of memory are, each with its number, by which it is found again.
use Rattle.std.specs.Prelude.{◌≡◌, ℕ, List, None, map}
use Rattle.std.specs.List.{enumerate_from}
use Rattle.framehop_memory.specs.declared.memory.MemoryRange.{MemoryRange}
use Rattle.framehop_memory.specs.declared.ranges.MemoryRanges.{MemoryRanges}
use Rattle.framehop_memory.specs.declared.segment.Segment.{Segment}

-- where a segment is in memory, with its number in the place of an offset
abbrev pub numbered_range : ℕ × Segment → MemoryRange
numbered_range numbered = record { start = numbered.1.address; size = numbered.1.size; offset = numbered.0 }

-- where segments are, each with its number
abbrev pub numbered_ranges : List Segment → List MemoryRange
numbered_ranges segments = map numbered_range (enumerate_from 0 segments)

-- these ranges are searched, and all their bytes count
abbrev pub AreNumbered : List Segment → MemoryRanges → Type 0
AreNumbered segments ranges = (ranges.listed.items ≡ numbered_ranges segments) × (ranges.file_size ≡ None)
