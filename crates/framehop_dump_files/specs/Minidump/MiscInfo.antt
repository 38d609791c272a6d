-- Which process it was: MINIDUMP_MISC_INFO.
use Rattle.std.specs.Prelude.{ℕ, List, length, Option, Some, None, bit_and, Result, Ok, Err, nat_lt, ◌==◌, if◌then◌else◌}
use Rattle.framehop_bytes.specs.Bytes.{◌>>=◌, le4}
use Rattle.framehop_dump_files.specs.Minidump.Numbers.{MiscInfoStream, MINIDUMP_MISC1_PROCESS_ID}
use Rattle.framehop_dump_files.specs.Minidump.Location.{located}
use Rattle.framehop_dump_files.specs.Minidump.Stream.{stream_of}
use Rattle.framehop_dump_files.specs.declared.minidump.error.MinidumpError.{MinidumpError}
use Rattle.framehop_dump_files.specs.declared.minidump.error.MinidumpError.TheVariants.{ShortStream}
use Rattle.framehop_dump_files.specs.declared.minidump.stream.Stream.{Stream}

-- SizeOfInfo, Flags1, and ProcessId where Flags1 says that it is one
abbrev pub process_id_in : ℕ → List ℕ → Result (Option ℕ) MinidumpError
process_id_in offset fields =
    if nat_lt (length fields) 12 then Err (ShortStream offset)
    else if bit_and (le4 fields 4) MINIDUMP_MISC1_PROCESS_ID == 0 then Ok None
    else Ok (Some (le4 fields 8))

-- that of the stream, if there is one
abbrev pub process_id_found : List ℕ → Option Stream → Result (Option ℕ) MinidumpError
process_id_found file None = Ok None
process_id_found file (Some stream) =
    located file stream.location >>= (λ fields. process_id_in stream.location.offset fields)

-- that of the first such stream, if there is one
unfoldable pub process_id_of : List ℕ → List Stream → Result (Option ℕ) MinidumpError
process_id_of file streams = process_id_found file (stream_of streams MiscInfoStream)
