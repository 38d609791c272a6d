-- The streams of a minidump: MINIDUMP_DIRECTORY, of 12 bytes.
use Rattle.std.specs.Prelude.{ℕ, ◌*◌, List, map, Option, Result, Ok, ◌==◌}
use Rattle.std.specs.List.{find}
use Rattle.framehop_bytes.specs.Bytes.{◌>>=◌, le4}
use Rattle.framehop_dump_files.specs.Minidump.Numbers.{DIRECTORY_SIZE}
use Rattle.framehop_dump_files.specs.Minidump.Location.{block_at, location_at, entries_in}
use Rattle.framehop_dump_files.specs.Minidump.Header.{header_of}
use Rattle.framehop_dump_files.specs.declared.minidump.error.MinidumpError.{MinidumpError}
use Rattle.framehop_dump_files.specs.declared.minidump.header.Header.{Header}
use Rattle.framehop_dump_files.specs.declared.minidump.stream.Stream.{Stream}

-- StreamType, and Location
abbrev pub stream_at : List ℕ → Stream
stream_at entry = record { stream_type = le4 entry 0; location = location_at entry 4 }

-- as many as NumberOfStreams, from StreamDirectoryRva on
unfoldable pub directory_of : List ℕ → Header → Result (List Stream) MinidumpError
directory_of file header = do
  entries ← block_at file header.directory (header.stream_count * DIRECTORY_SIZE)
  Ok (map stream_at (entries_in DIRECTORY_SIZE entries))

-- the streams of a file
unfoldable pub streams_of : List ℕ → Result (List Stream) MinidumpError
streams_of file = do
  header ← header_of file
  directory_of file header

-- the first of a type: further ones are not read
abbrev pub stream_of : List Stream → ℕ → Option Stream
stream_of streams stream_type = find (λ stream. stream.stream_type == stream_type) streams
