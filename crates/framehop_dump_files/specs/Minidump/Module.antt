-- The modules of a process: MINIDUMP_MODULE, of 108 bytes.
use Rattle.std.specs.Prelude.{ℕ, List, map, Result, Ok}
use Rattle.framehop_bytes.specs.Bytes.{◌>>=◌, le4, le8}
use Rattle.framehop_dump_files.specs.Minidump.Numbers.{ModuleListStream, MODULE_SIZE}
use Rattle.framehop_dump_files.specs.Minidump.Location.{location_at, entries_in}
use Rattle.framehop_dump_files.specs.Minidump.List.{list_of}
use Rattle.framehop_dump_files.specs.declared.minidump.error.MinidumpError.{MinidumpError}
use Rattle.framehop_dump_files.specs.declared.minidump.module.Module.{Module}
use Rattle.framehop_dump_files.specs.declared.minidump.stream.Stream.{Stream}

-- BaseOfImage, SizeOfImage, CheckSum, TimeDateStamp, ModuleNameRva, and CvRecord after VersionInfo, which has 52 bytes
abbrev pub module_at : List ℕ → Module
module_at entry = record {
  base = le8 entry 0;
  size = le4 entry 8;
  checksum = le4 entry 12;
  time = le4 entry 16;
  name = le4 entry 20;
  codeview = location_at entry 76;
}

-- the entries of MINIDUMP_MODULE_LIST
unfoldable pub module_entries_of : List ℕ → List Stream → Result (List (List ℕ)) MinidumpError
module_entries_of file streams = do
  list ← list_of file streams ModuleListStream MODULE_SIZE
  Ok (entries_in MODULE_SIZE list)

-- the modules of a file
unfoldable pub modules_of : List ℕ → List Stream → Result (List Module) MinidumpError
modules_of file streams = do
  entries ← module_entries_of file streams
  Ok (map module_at entries)
