-- Where the bytes of a file are in memory (System V gABI, chapter 5, "Program Loading").
use Rattle.std.specs.Prelude.{ℕ, ◌+◌, ◌-◌, ◌^◌, List, [], ◌∷◌, Option, Some, None, option_and_then, Bool, ◌%◌, ◌&&◌, nat_le, nat_lt, if◌then◌else◌}
use Rattle.std.specs.List.{find}
use Rattle.std.specs.Option.{option_or}
use Rattle.framehop_memory.specs.declared.segment.Segment.{Segment}

-- the size of a page, in bytes: memory is mapped by whole pages
abbrev pub page_size : ℕ
page_size = 4096

-- The pages of a segment of code in the file are those at an offset, of a size: memory is mapped by whole pages, so the mapping
-- begins in the page in which the segment begins, and ends in that in which it ends.
abbrev pub fits : ℕ → ℕ → Segment → Bool
fits offset size segment =
    segment.is_code
    && nat_le offset segment.offset && nat_lt segment.offset (offset + page_size)
    && nat_le (segment.offset + segment.file_size) (offset + size)
    && nat_lt (offset + size) (segment.offset + segment.file_size + page_size)

-- A segment of code begins before the end of the page at an offset of the file, and ends after the offset: a part of it is mapped.
abbrev pub is_loaded_from : ℕ → Segment → Bool
is_loaded_from offset segment =
    segment.is_code
    && nat_lt segment.offset (offset + page_size) && nat_lt offset (segment.offset + segment.file_size)

-- The segment of a mapping of so many bytes from an offset of the file on: the first whose pages these are, or else the
-- first of which they are a part.
abbrev pub segment_of : List Segment → ℕ → ℕ → Option Segment
segment_of segments offset size =
    option_or (find (fits offset size) segments) (find (is_loaded_from offset) segments)

-- a number of 64 bits, if it is one: a sum less a number
abbrev pub difference_of : ℕ → ℕ → Option ℕ
difference_of sum less = if nat_le less sum && nat_lt (sum - less) (2 ^ 64) then Some (sum - less) else None

-- the stated address of a file offset in a segment: as far from its first address as the offset is from its own
abbrev pub svma_in : ℕ → Segment → Option ℕ
svma_in offset segment = difference_of (segment.address + offset) segment.offset

-- the stated address of the offset at which a mapping begins
abbrev pub svma_of : List Segment → ℕ → ℕ → Option ℕ
svma_of segments offset size =
    option_and_then (λ segment. svma_in offset segment) (segment_of segments offset size)

-- where the stated address 0 is, if so many bytes of the file from an offset on are mapped at an actual address
abbrev pub base_of : List Segment → ℕ → ℕ → ℕ → Option ℕ
base_of segments offset size avma =
    option_and_then (λ svma. if nat_le svma avma then Some (avma - svma) else None) (svma_of segments offset size)

-- the address of the page in which one is
abbrev pub page_of : ℕ → ℕ
page_of address = address - address % page_size

-- where the stated address 0 is, if a file is mapped from the page of its first segment on (gABI, "Base Address": the
-- segments are in the order of their addresses)
abbrev pub base_from : List Segment → ℕ → Option ℕ
base_from [] start = None
base_from (segment ∷ segments) start =
    if nat_le (page_of segment.address) start then Some (start - page_of segment.address) else None
