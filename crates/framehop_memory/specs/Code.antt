-- Segments of memory that may be executed.
use Rattle.std.specs.Prelude.{ℕ, ◌+◌, List, Bool, ◌&&◌, nat_le, nat_lt, is_some, filter, map}
use Rattle.std.specs.List.{find}
use Rattle.framehop_memory.specs.declared.memory.MemoryRange.{MemoryRange}
use Rattle.framehop_memory.specs.declared.segment.Segment.{Segment}

-- a segment of memory has an address
abbrev pub has_address : ℕ → Segment → Bool
has_address address segment = nat_le segment.address address && nat_lt address (segment.address + segment.size)

-- and may be executed
abbrev pub has_code : ℕ → Segment → Bool
has_code address segment = segment.is_code && has_address address segment

-- an address is in a segment that may be executed
abbrev pub is_code_in : List Segment → ℕ → Bool
is_code_in segments address = is_some (find (has_code address) segments)

-- where a segment is in memory
abbrev pub range_of : Segment → MemoryRange
range_of segment = record { start = segment.address; size = segment.size; offset = 0 }

abbrev pub is_code : Segment → Bool
is_code segment = segment.is_code

-- where those are that may be executed
abbrev pub code_ranges : List Segment → List MemoryRange
code_ranges segments = map range_of (filter is_code segments)
