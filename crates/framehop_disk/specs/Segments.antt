-- Which segments of a core file's memory are read apart.
use Rattle.std.specs.Prelude.{ℕ, ◌+◌, ◌-◌, ◌*◌, ◌/◌, ◌^◌, Bool, true, not, ◌&&◌, nat_le, nat_lt, List, [], ◌∷◌, map, flat_map, min, if◌then◌else◌}
use Rattle.std.specs.List.{filter, list_any, range_with_len}
use Rattle.framehop_dump_files.specs.declared.coredump.mapped_file.MappedFile.{MappedFile}
use Rattle.framehop_memory.specs.declared.memory.MemoryRange.{MemoryRange}
use Rattle.framehop_memory.specs.declared.segment.Segment.{Segment}
use Rattle.framehop_disk.specs.declared.segments.LoadedSegment.{LoadedSegment}
use Rattle.framehop_disk.specs.declared.wanted.WantedSegment.{WantedSegment}
use Rattle.framehop_disk.specs.Wanted.{sum_64}

-- the first address that is the kernel's on x86_64, as of a vsyscall page, and is in no user's reach on aarch64
abbrev pub FIRST_OF_KERNEL : ℕ
FIRST_OF_KERNEL = 0x8000000000000000

-- a file of a size lacks some of a segment that is not the kernel's
abbrev pub is_cut_off : ℕ → Segment → Bool
is_cut_off size segment =
    nat_lt size (sum_64 segment.offset segment.file_size) && nat_lt segment.address FIRST_OF_KERNEL

-- how much of a segment a file of a size has
abbrev pub had : ℕ → Segment → ℕ
had size segment = min (size - segment.offset) segment.file_size

abbrev pub loaded_of : ℕ → Segment → LoadedSegment
loaded_of size segment = record {
  range = record { start = segment.address; size = had size segment; offset = segment.offset };
  is_code = segment.is_code;
}

-- the segments of which it has something
abbrev pub segments_in : ℕ → List Segment → List LoadedSegment
segments_in size loaded = map (loaded_of size) (filter (λ segment. nat_lt 0 (had size segment)) loaded)

abbrev pub start_of : LoadedSegment → ℕ
start_of segment = segment.range.start

-- each segment begins where the one before ends, or later, and none ends past the last address of 64 bits
abbrev pub are_apart : ℕ → List LoadedSegment → Bool
are_apart end [] = true
are_apart end (segment ∷ segments) =
    nat_lt (segment.range.start + segment.range.size) (2 ^ 64) && nat_le end segment.range.start
    && are_apart (segment.range.start + segment.range.size) segments

-- ---- pieces

-- from this size on, in bytes, a segment of code that no file has is read in pieces
abbrev pub LARGE_CODE : ℕ
LARGE_CODE = 0x1000000

-- the size of a piece without what it shares with the next one, and of that
abbrev pub PIECE : ℕ
PIECE = 0x100000

abbrev pub SHARED : ℕ
SHARED = 0x10000

-- a range of which nothing is wanted
abbrev pub unread : MemoryRange → WantedSegment
unread range = record { range = range; wanted = 0 }

-- how far a piece is from the start
abbrev pub before_piece : ℕ → ℕ
before_piece number = min (number * PIECE) (2 ^ 64 - 1)

abbrev pub piece_of : MemoryRange → ℕ → WantedSegment
piece_of range number = unread (record {
  start = sum_64 range.start (before_piece number);
  size = min (range.size - before_piece number) (PIECE + SHARED);
  offset = sum_64 range.offset (before_piece number);
})

-- the pieces of a range
abbrev pub pieces_of : MemoryRange → List WantedSegment
pieces_of range = map (piece_of range) (range_with_len 0 ((range.size + (PIECE - 1)) / PIECE))

-- a file was mapped at an address of a range
abbrev pub has_file : MemoryRange → MappedFile → Bool
has_file range file = nat_lt file.start (sum_64 range.start range.size) && nat_lt range.start file.end

-- a segment is cut if it is large, has code, and no file was mapped there
abbrev pub is_cut : List MappedFile → LoadedSegment → Bool
is_cut mapped segment =
    segment.is_code && nat_lt LARGE_CODE segment.range.size && not (list_any (has_file segment.range) mapped)

abbrev pub pieces_beside : List MappedFile → LoadedSegment → List WantedSegment
pieces_beside mapped segment =
    if is_cut mapped segment then pieces_of segment.range else unread segment.range ∷ []

-- all segments that are read apart
abbrev pub wanted_beside : List MappedFile → List LoadedSegment → List WantedSegment
wanted_beside mapped segments = flat_map (pieces_beside mapped) segments
