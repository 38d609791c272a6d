-- The names of threads: MINIDUMP_THREAD_NAME, of 12 bytes.
use Rattle.std.specs.Prelude.{ℕ, List, map, Result, Ok}
use Rattle.framehop_bytes.specs.Bytes.{◌>>=◌, le4, le8}
use Rattle.framehop_dump_files.specs.Minidump.Numbers.{ThreadNamesStream, THREAD_NAME_SIZE}
use Rattle.framehop_dump_files.specs.Minidump.Location.{entries_in}
use Rattle.framehop_dump_files.specs.Minidump.List.{list_of}
use Rattle.framehop_dump_files.specs.declared.minidump.error.MinidumpError.{MinidumpError}
use Rattle.framehop_dump_files.specs.declared.minidump.stream.Stream.{Stream}
use Rattle.framehop_dump_files.specs.declared.minidump.thread_name.ThreadName.{ThreadName}

-- ThreadId and RvaOfThreadName
abbrev pub thread_name_at : List ℕ → ThreadName
thread_name_at entry = record { tid = le4 entry 0; name = le8 entry 4 }

-- the entries of MINIDUMP_THREAD_NAME_LIST
unfoldable pub thread_name_entries_of : List ℕ → List Stream → Result (List (List ℕ)) MinidumpError
thread_name_entries_of file streams = do
  list ← list_of file streams ThreadNamesStream THREAD_NAME_SIZE
  Ok (entries_in THREAD_NAME_SIZE list)

-- the names of threads in a file
unfoldable pub thread_names_of : List ℕ → List Stream → Result (List ThreadName) MinidumpError
thread_names_of file streams = do
  entries ← thread_name_entries_of file streams
  Ok (map thread_name_at entries)
