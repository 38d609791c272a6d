-- The threads of a process: MINIDUMP_THREAD, of 48 bytes.
use Rattle.std.specs.Prelude.{ℕ, List, map, Result, Ok}
use Rattle.framehop_bytes.specs.Bytes.{◌>>=◌, le4, le8}
use Rattle.framehop_dump_files.specs.Minidump.Numbers.{ThreadListStream, THREAD_SIZE}
use Rattle.framehop_dump_files.specs.Minidump.Location.{location_at, entries_in}
use Rattle.framehop_dump_files.specs.Minidump.List.{list_of}
use Rattle.framehop_dump_files.specs.Minidump.Memory.{descriptor_at}
use Rattle.framehop_dump_files.specs.declared.minidump.error.MinidumpError.{MinidumpError}
use Rattle.framehop_dump_files.specs.declared.minidump.stream.Stream.{Stream}
use Rattle.framehop_dump_files.specs.declared.minidump.thread.Thread.{Thread}

-- ThreadId, Teb, Stack and ThreadContext; SuspendCount and the priorities are passed over
abbrev pub thread_at : List ℕ → Thread
thread_at entry = record {
  tid = le4 entry 0;
  teb = le8 entry 16;
  stack = descriptor_at entry 24;
  context = location_at entry 40;
}

-- the entries of MINIDUMP_THREAD_LIST
unfoldable pub thread_entries_of : List ℕ → List Stream → Result (List (List ℕ)) MinidumpError
thread_entries_of file streams = do
  list ← list_of file streams ThreadListStream THREAD_SIZE
  Ok (entries_in THREAD_SIZE list)

-- the threads of a file
unfoldable pub threads_of : List ℕ → List Stream → Result (List Thread) MinidumpError
threads_of file streams = do
  entries ← thread_entries_of file streams
  Ok (map thread_at entries)
