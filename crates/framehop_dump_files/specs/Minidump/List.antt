-- Streams that are lists: MINIDUMP_THREAD_LIST, MINIDUMP_MODULE_LIST and MINIDUMP_MEMORY_LIST.
-- The padding: Breakpad, minidump.cc.
use Rattle.std.specs.Prelude.{ℕ, ◌+◌, ◌*◌, List, [], length, drop, Option, Some, None, Result, Ok, Err, nat_lt, ◌==◌, if◌then◌else◌}
use Rattle.framehop_bytes.specs.Bytes.{◌>>=◌, le4}
use Rattle.framehop_dump_files.specs.Minidump.Location.{located}
use Rattle.framehop_dump_files.specs.Minidump.Stream.{stream_of}
use Rattle.framehop_dump_files.specs.declared.minidump.error.MinidumpError.{MinidumpError}
use Rattle.framehop_dump_files.specs.declared.minidump.error.MinidumpError.TheVariants.{ShortStream, BadListSize}
use Rattle.framehop_dump_files.specs.declared.minidump.stream.Stream.{Stream}

-- The bytes of the entries of a list at an offset of the file: their number, and so many of a size. Some writers align
-- the entries to eight bytes: then four bytes of padding are before them, and the size of the stream counts these.
unfoldable pub list_in : ℕ → ℕ → List ℕ → Result (List ℕ) MinidumpError
list_in offset size list =
    if nat_lt (length list) 4 then Err (ShortStream offset)
    else if length list == 4 + size * le4 list 0 then Ok (drop 4 list)
    else if length list == 8 + size * le4 list 0 then Ok (drop 8 list)
    else Err (BadListSize offset)

abbrev pub list_found : List ℕ → ℕ → Option Stream → Result (List ℕ) MinidumpError
list_found file size None = Ok []
list_found file size (Some stream) = located file stream.location >>= (λ list. list_in stream.location.offset size list)

-- those of the first stream of a type, none where there is no such stream
unfoldable pub list_of : List ℕ → List Stream → ℕ → ℕ → Result (List ℕ) MinidumpError
list_of file streams stream_type size = list_found file size (stream_of streams stream_type)
