-- The numbers of the format, under the names of Microsoft's winnt.h and "PE Format".
use Rattle.std.specs.Prelude.{ℕ}

-- "MZ", "PE" with two zeros, and the magic number of PE32+
abbrev pub IMAGE_DOS_SIGNATURE : ℕ
IMAGE_DOS_SIGNATURE = 0x5a4d

abbrev pub IMAGE_NT_SIGNATURE : ℕ
IMAGE_NT_SIGNATURE = 0x4550

abbrev pub IMAGE_NT_OPTIONAL_HDR64_MAGIC : ℕ
IMAGE_NT_OPTIONAL_HDR64_MAGIC = 0x20b

-- Machine
abbrev pub IMAGE_FILE_MACHINE_AMD64 : ℕ
IMAGE_FILE_MACHINE_AMD64 = 0x8664

abbrev pub IMAGE_FILE_MACHINE_ARM64 : ℕ
IMAGE_FILE_MACHINE_ARM64 = 0xaa64

-- indices of data directories
abbrev pub IMAGE_DIRECTORY_ENTRY_EXPORT : ℕ
IMAGE_DIRECTORY_ENTRY_EXPORT = 0

abbrev pub IMAGE_DIRECTORY_ENTRY_EXCEPTION : ℕ
IMAGE_DIRECTORY_ENTRY_EXCEPTION = 3

abbrev pub IMAGE_DIRECTORY_ENTRY_DEBUG : ℕ
IMAGE_DIRECTORY_ENTRY_DEBUG = 6

-- Type of an entry of the debug directory
abbrev pub IMAGE_DEBUG_TYPE_CODEVIEW : ℕ
IMAGE_DEBUG_TYPE_CODEVIEW = 2

-- the signature of a CodeView record: "RSDS"
abbrev pub RSDS : ℕ
RSDS = 0x53445352

-- sizes, in bytes: of the DOS header, of the signature, the COFF header and the magic number together, of the optional
-- header's fields, and of entries of the section table and the debug directory
abbrev pub DOS_HEADER_SIZE : ℕ
DOS_HEADER_SIZE = 64

abbrev pub COFF_SIZE : ℕ
COFF_SIZE = 26

abbrev pub FIELDS_SIZE : ℕ
FIELDS_SIZE = 112

abbrev pub SECTION_HEADER_SIZE : ℕ
SECTION_HEADER_SIZE = 40

abbrev pub DEBUG_DIRECTORY_SIZE : ℕ
DEBUG_DIRECTORY_SIZE = 28

-- the size of the export directory table
abbrev pub EXPORT_DIRECTORY_SIZE : ℕ
EXPORT_DIRECTORY_SIZE = 40
