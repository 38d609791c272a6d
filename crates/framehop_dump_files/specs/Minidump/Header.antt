-- The header of a minidump: MINIDUMP_HEADER, of 32 bytes.
use Rattle.std.specs.Prelude.{ℕ, List, not, Result, Ok, Err, ◌==◌, if◌then◌else◌}
use Rattle.framehop_bytes.specs.Bytes.{◌>>=◌, le2, le4}
use Rattle.framehop_dump_files.specs.Minidump.Numbers.{MINIDUMP_SIGNATURE, MINIDUMP_VERSION}
use Rattle.framehop_dump_files.specs.Minidump.Location.{block_at}
use Rattle.framehop_dump_files.specs.declared.minidump.error.MinidumpError.{MinidumpError}
use Rattle.framehop_dump_files.specs.declared.minidump.error.MinidumpError.TheVariants.{NotAMinidump, UnknownVersion}
use Rattle.framehop_dump_files.specs.declared.minidump.header.Header.{Header}

-- Signature, Version (whose upper half is the writer's own), NumberOfStreams, StreamDirectoryRva and TimeDateStamp
unfoldable pub header_of : List ℕ → Result Header MinidumpError
header_of file = do
  header ← block_at file 0 32
  if not (le4 header 0 == MINIDUMP_SIGNATURE) then Err (NotAMinidump 0)
      else if not (le2 header 4 == MINIDUMP_VERSION) then Err (UnknownVersion 4)
      else Ok (record { stream_count = le4 header 8; directory = le4 header 12; time = le4 header 20 })
