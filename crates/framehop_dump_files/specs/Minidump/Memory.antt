-- The memory of a process, as far as a minidump has it: MINIDUMP_MEMORY_LIST and MINIDUMP_MEMORY64_LIST.
use Rattle.std.specs.Prelude.{ℕ, ◌+◌, ◌*◌, ◌^◌, List, [], ◌∷◌, ◌++◌, map, length, drop, Option, Some, None, Result, Ok, Err, nat_lt, ◌==◌, if◌then◌else◌}
use Rattle.framehop_bytes.specs.Bytes.{◌>>=◌, le4, le8}
use Rattle.framehop_memory.specs.declared.memory.MemoryRange.{MemoryRange}
use Rattle.framehop_dump_files.specs.Minidump.Numbers.{MemoryListStream, Memory64ListStream, MEMORY_DESCRIPTOR_SIZE}
use Rattle.framehop_dump_files.specs.Minidump.Location.{located, entries_in}
use Rattle.framehop_dump_files.specs.Minidump.Stream.{stream_of}
use Rattle.framehop_dump_files.specs.Minidump.List.{list_of}
use Rattle.framehop_dump_files.specs.declared.minidump.error.MinidumpError.{MinidumpError}
use Rattle.framehop_dump_files.specs.declared.minidump.error.MinidumpError.TheVariants.{ShortStream, BadListSize, OffsetTooBig}
use Rattle.framehop_dump_files.specs.declared.minidump.stream.Stream.{Stream}

-- MINIDUMP_MEMORY_DESCRIPTOR: StartOfMemoryRange, DataSize and Rva
abbrev pub descriptor_at : List ℕ → ℕ → MemoryRange
descriptor_at entry at = record { start = le8 entry at; size = le4 entry (at + 8); offset = le4 entry (at + 12) }

-- the range of an entry of MINIDUMP_MEMORY_LIST
abbrev pub range_at : List ℕ → MemoryRange
range_at entry = descriptor_at entry 0

-- the entries of MINIDUMP_MEMORY_LIST
unfoldable pub short_entries_of : List ℕ → List Stream → Result (List (List ℕ)) MinidumpError
short_entries_of file streams = do
  list ← list_of file streams MemoryListStream MEMORY_DESCRIPTOR_SIZE
  Ok (entries_in MEMORY_DESCRIPTOR_SIZE list)

-- BaseRva and the entries of MINIDUMP_MEMORY64_LIST: NumberOfMemoryRanges, BaseRva, and so many
unfoldable pub long_list_in : ℕ → List ℕ → Result (ℕ × List (List ℕ)) MinidumpError
long_list_in offset list =
    if nat_lt (length list) 16 then Err (ShortStream offset)
    else if length list == 16 + 16 * le8 list 0 then Ok (le8 list 8, entries_in MEMORY_DESCRIPTOR_SIZE (drop 16 list))
    else Err (BadListSize offset)

-- those of the stream, if there is one
abbrev pub long_list_found : List ℕ → Option Stream → Result (ℕ × List (List ℕ)) MinidumpError
long_list_found file None = Ok (0, [])
long_list_found file (Some stream) = located file stream.location >>= (λ list. long_list_in stream.location.offset list)

unfoldable pub long_list_of : List ℕ → List Stream → Result (ℕ × List (List ℕ)) MinidumpError
long_list_of file streams = long_list_found file (stream_of streams Memory64ListStream)

-- MINIDUMP_MEMORY_DESCRIPTOR64: StartOfMemoryRange and DataSize. The bytes of the first range are at an offset of the
-- file, and those of each other after those of the one before it.
unfoldable pub ranges_from : ℕ → List (List ℕ) → Result (List MemoryRange) MinidumpError
ranges_from offset [] = Ok []
ranges_from offset (entry ∷ entries) =
    if nat_lt (offset + le8 entry 8) (2 ^ 64) then (do
      others ← ranges_from (offset + le8 entry 8) entries
      Ok (record { start = le8 entry 0; size = le8 entry 8; offset = offset } ∷ others)) else Err (OffsetTooBig offset)

-- the ranges of a file: those of the first list, and then those of the second
unfoldable pub ranges_of : List ℕ → List Stream → Result (List MemoryRange) MinidumpError
ranges_of file streams = do
  short ← short_entries_of file streams
  long ← long_list_of file streams
  ranges ← ranges_from long.0 long.1
  Ok (map range_at short ++ ranges)
