-- Which memory of a process could be executed: MINIDUMP_MEMORY_INFO_LIST.
use Rattle.std.specs.Prelude.{ℕ, ◌+◌, ◌*◌, bit_and, Bool, not, ◌||◌, List, [], map, length, drop, Option, Some, None, Result, Ok, Err, nat_lt, ◌==◌, if◌then◌else◌}
use Rattle.framehop_bytes.specs.Bytes.{◌>>=◌, le4, le8}
use Rattle.framehop_memory.specs.declared.segment.Segment.{Segment}
use Rattle.framehop_dump_files.specs.Minidump.Numbers.{MemoryInfoListStream, MEMORY_INFO_LIST_SIZE, MEMORY_INFO_SIZE, PAGE_EXECUTE_ANY}
use Rattle.framehop_dump_files.specs.Minidump.Location.{located, entries_in}
use Rattle.framehop_dump_files.specs.Minidump.Stream.{stream_of}
use Rattle.framehop_dump_files.specs.declared.minidump.error.MinidumpError.{MinidumpError}
use Rattle.framehop_dump_files.specs.declared.minidump.error.MinidumpError.TheVariants.{ShortStream, BadListSize}
use Rattle.framehop_dump_files.specs.declared.minidump.stream.Stream.{Stream}

-- MINIDUMP_MEMORY_INFO: BaseAddress, RegionSize and Protect, as a segment without bytes
abbrev pub region_at : List ℕ → Segment
region_at entry = record {
  address = le8 entry 0;
  size = le8 entry 24;
  offset = 0;
  file_size = 0;
  is_code = not (bit_and (le4 entry 36) PAGE_EXECUTE_ANY == 0);
}

-- SizeOfHeader or SizeOfEntry is another than these two have
abbrev pub has_other_sizes : List ℕ → Bool
has_other_sizes list = not (le4 list 0 == MEMORY_INFO_LIST_SIZE) || not (le4 list 4 == MEMORY_INFO_SIZE)

-- the entries of a list at an offset of the file: none of other sizes
unfoldable pub info_list_in : ℕ → List ℕ → Result (List (List ℕ)) MinidumpError
info_list_in offset list =
    if nat_lt (length list) MEMORY_INFO_LIST_SIZE then Err (ShortStream offset)
    else if has_other_sizes list then Ok []
    else if length list == MEMORY_INFO_LIST_SIZE + MEMORY_INFO_SIZE * le8 list 8 then
    Ok (entries_in MEMORY_INFO_SIZE (drop MEMORY_INFO_LIST_SIZE list))
    else Err (BadListSize offset)

-- those of the first stream of the type, if there is one
abbrev pub info_list_found : List ℕ → Option Stream → Result (List (List ℕ)) MinidumpError
info_list_found file None = Ok []
info_list_found file (Some stream) = located file stream.location >>= (λ list. info_list_in stream.location.offset list)

unfoldable pub info_list_of : List ℕ → List Stream → Result (List (List ℕ)) MinidumpError
info_list_of file streams = info_list_found file (stream_of streams MemoryInfoListStream)

-- the regions of a file
unfoldable pub regions_of : List ℕ → List Stream → Result (List Segment) MinidumpError
regions_of file streams = do
  entries ← info_list_of file streams
  Ok (map region_at entries)
