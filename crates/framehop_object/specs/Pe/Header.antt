-- The headers of a file ("PE Format": "MS-DOS Stub", "Signature", "COFF File Header", "Optional Header").
use Rattle.std.specs.Prelude.{ℕ, ◌+◌, ◌*◌, Bool, codes, List, length, nat_eq, not, Option, Some, None, Result, Ok, Err, nat_lt, nat_le, ◌==◌, ◌&&◌, if◌then◌else◌}
use Rattle.std.specs.List.{starts_with}
use Rattle.framehop_bytes.specs.Bytes.{◌>>=◌, le2, le4, le8}
use Rattle.framehop_object.specs.Pe.Numbers.{IMAGE_DOS_SIGNATURE, IMAGE_NT_SIGNATURE, IMAGE_NT_OPTIONAL_HDR64_MAGIC, IMAGE_FILE_MACHINE_AMD64, IMAGE_FILE_MACHINE_ARM64, IMAGE_DIRECTORY_ENTRY_EXPORT, IMAGE_DIRECTORY_ENTRY_EXCEPTION, IMAGE_DIRECTORY_ENTRY_DEBUG, DOS_HEADER_SIZE, COFF_SIZE, FIELDS_SIZE}
use Rattle.framehop_object.specs.Pe.Block.{block_at}
use Rattle.framehop_object.specs.declared.pe.error.PeError.{PeError}
use Rattle.framehop_object.specs.declared.pe.error.PeError.TheVariants.{NotPe, NotPe32Plus, ShortOptionalHeader}
use Rattle.framehop_object.specs.declared.pe.header.DataDirectory.{DataDirectory}
use Rattle.framehop_object.specs.declared.pe.header.FileHeader.{FileHeader}
use Rattle.framehop_object.specs.declared.pe.header.Machine.{Machine}
use Rattle.framehop_object.specs.declared.pe.header.Machine.TheVariants.{X86_64, Aarch64, Other}

-- a PE file begins with "MZ"
abbrev pub is_pe : List ℕ → Bool
is_pe file = starts_with nat_eq file (codes "MZ")

-- Machine
abbrev pub machine_of : ℕ → Machine
machine_of number =
    if number == IMAGE_FILE_MACHINE_AMD64 then X86_64
    else if number == IMAGE_FILE_MACHINE_ARM64 then Aarch64
    else Other number

-- IMAGE_DATA_DIRECTORY, where an image has one: its address and its size are not 0
abbrev pub present : ℕ → ℕ → Option DataDirectory
present address size =
    if not (address == 0) && not (size == 0) then Some (record { virtual_address = address; size = size }) else None

-- The data directory of an index: it is there where the index is below NumberOfRvaAndSizes, and the optional header does not
-- end before it. Each has 8 bytes.
abbrev pub directory_of : List ℕ → ℕ → Option DataDirectory
directory_of optional index =
    if nat_lt index (le4 optional 108) && nat_le (FIELDS_SIZE + 8 * index + 8) (length optional)
    then present (le4 optional (FIELDS_SIZE + 8 * index)) (le4 optional (FIELDS_SIZE + 8 * index + 4))
    else None

-- where the signature is: the DOS header begins with "MZ" and has the offset at 0x3c
unfoldable pub start_of : List ℕ → Result ℕ PeError
start_of file = do
  header ← block_at file 0 DOS_HEADER_SIZE
  if not (le2 header 0 == IMAGE_DOS_SIGNATURE) then Err (NotPe 0) else Ok (le4 header 0x3c)

-- the signature, the COFF header, and the magic number with which the optional header begins
unfoldable pub coff_header_of : List ℕ → ℕ → Result (List ℕ) PeError
coff_header_of file start = do
  header ← block_at file start COFF_SIZE
  if not (le4 header 0 == IMAGE_NT_SIGNATURE) then Err (NotPe start)
      else if not (le2 header 24 == IMAGE_NT_OPTIONAL_HDR64_MAGIC) then Err (NotPe32Plus (start + 24))
      else Ok header

-- the optional header, of a size that has room for its fields
abbrev pub optional_header_of : List ℕ → ℕ → ℕ → Result (List ℕ) PeError
optional_header_of file start size =
    if nat_lt size FIELDS_SIZE then Err (ShortOptionalHeader (start + 20)) else block_at file (start + 24) size

-- the fields of both; the section table is after the optional header
abbrev pub fields_of : ℕ → List ℕ → List ℕ → FileHeader
fields_of start coff optional = record {
  machine = machine_of (le2 coff 4);
  number_of_sections = le2 coff 6;
  time_date_stamp = le4 coff 8;
  image_base = le8 optional 24;
  size_of_image = le4 optional 56;
  size_of_headers = le4 optional 60;
  number_of_rva_and_sizes = le4 optional 108;
  export_directory = directory_of optional IMAGE_DIRECTORY_ENTRY_EXPORT;
  exception_directory = directory_of optional IMAGE_DIRECTORY_ENTRY_EXCEPTION;
  debug_directory = directory_of optional IMAGE_DIRECTORY_ENTRY_DEBUG;
  section_table = start + 24 + le2 coff 20;
}

-- the headers of a file; SizeOfOptionalHeader is at 20 after the signature's start
unfoldable pub file_header_of : List ℕ → Result FileHeader PeError
file_header_of file = do
  start ← start_of file
  coff ← coff_header_of file start
  optional ← optional_header_of file start (le2 coff 20)
  Ok (fields_of start coff optional)
