-- The end of a segment of a core file's memory that is read.
use Rattle.std.specs.Prelude.{ℕ, ◌-◌, ◌+◌, ◌^◌, Bool, false, ◌&&◌, ◌||◌, nat_le, nat_lt, List, [], ◌∷◌, min, if◌then◌else◌}
use Rattle.std.specs.List.{fold, list_any}
use Rattle.framehop_memory.specs.declared.left_out.ReadPart.{ReadPart}
use Rattle.framehop_disk.specs.declared.wanted.WantedSegment.{WantedSegment}

-- so many bytes before an address that is asked for are read with it: 64 KiB
abbrev pub MARGIN : ℕ
MARGIN = 0x10000

-- how many bytes are not read, before those that are
abbrev pub unwanted : WantedSegment → ℕ
unwanted segment = segment.range.size - segment.wanted

-- an address is in the part that is not read
abbrev pub is_unread : WantedSegment → ℕ → Bool
is_unread segment address =
    nat_le segment.range.start address && nat_lt (address - segment.range.start) (unwanted segment)

-- what is read then: the memory from the margin before that address on, up to the segment's end
abbrev pub wanted_from : WantedSegment → ℕ → ℕ
wanted_from segment address =
    if is_unread segment address then segment.range.size - (address - segment.range.start - MARGIN) else segment.wanted

abbrev pub with_wanted : WantedSegment → ℕ → WantedSegment
with_wanted segment wanted = record segment { wanted = wanted }

-- ---- of several segments

abbrev pub start_of : WantedSegment → ℕ
start_of segment = segment.range.start

abbrev pub begins_by : ℕ → WantedSegment → Bool
begins_by address segment = nat_le (start_of segment) address

-- An address is in the last segment that begins there or before, if it is in one. The memory from it on is wanted:
abbrev pub wanting : ℕ → List WantedSegment → List WantedSegment
wanting address [] = []
wanting address (segment ∷ later) =
    if list_any (begins_by address) later then segment ∷ wanting address later
    else with_wanted segment (wanted_from segment address) ∷ later

-- it was not wanted before
abbrev pub is_new : ℕ → List WantedSegment → Bool
is_new address [] = false
is_new address (segment ∷ later) =
    if list_any (begins_by address) later then is_new address later else is_unread segment address

-- the same of addresses, one after another
abbrev pub wanting_all : List ℕ → List WantedSegment → List WantedSegment
wanting_all [] segments = segments
wanting_all (address ∷ addresses) segments = wanting_all addresses (wanting address segments)

abbrev pub has_new : List ℕ → List WantedSegment → Bool
has_new [] segments = false
has_new (address ∷ addresses) segments = is_new address segments || has_new addresses (wanting address segments)

-- ---- where they are

-- a sum of addresses, which stays in 64 bits
abbrev pub sum_64 : ℕ → ℕ → ℕ
sum_64 a b = min (a + b) (2 ^ 64 - 1)

-- the end as a part of the segment, its bytes at an offset
abbrev pub part_of : WantedSegment → ℕ → ReadPart
part_of segment offset = record {
  segment = segment.range;
  read = record {
    start = sum_64 segment.range.start (unwanted segment);
    size = segment.wanted;
    offset = offset;
  };
}

-- how many bytes are read of segments
abbrev pub wanted_size : List WantedSegment → ℕ
wanted_size segments = fold (λ size segment. sum_64 size segment.wanted) 0 segments

-- their ends, each with its bytes after those of the one before, the first at an offset
abbrev pub parts_from : ℕ → List WantedSegment → List ReadPart
parts_from offset [] = []
parts_from offset (segment ∷ segments) = part_of segment offset ∷ parts_from (sum_64 offset segment.wanted) segments
