-- The ELF header (gABI, chapter 4, "ELF Header").
-- What identifies a file: "ELF Identification".
use Rattle.std.specs.Prelude.{ℕ, List, slice_index, not, Result, Ok, Err, ◌==◌, if◌then◌else◌}
use Rattle.framehop_bytes.specs.Bytes.{◌>>=◌, le2, le4, le8}
use Rattle.framehop_object.specs.Elf.Numbers.{ELFMAG, ELFCLASS64, ELFDATA2LSB, EV_CURRENT}
use Rattle.framehop_object.specs.Elf.Block.{block_at}
use Rattle.framehop_object.specs.declared.elf.error.ElfError.{ElfError}
use Rattle.framehop_object.specs.declared.elf.error.ElfError.TheVariants.{NotElf, NotClass64, NotLittleEndian, UnknownVersion}
use Rattle.framehop_object.specs.declared.elf.header.FileHeader.{FileHeader}

-- the fields of Elf64_Ehdr after e_ident
abbrev pub fields_of : List ℕ → FileHeader
fields_of entry = record {
  e_type = le2 entry 16;
  e_machine = le2 entry 18;
  e_entry = le8 entry 24;
  e_phoff = le8 entry 32;
  e_shoff = le8 entry 40;
  e_phentsize = le2 entry 54;
  e_phnum = le2 entry 56;
  e_shentsize = le2 entry 58;
  e_shnum = le2 entry 60;
  e_shstrndx = le2 entry 62;
}

-- e_ident: the magic number, the class, the encoding and the version
abbrev pub identified : List ℕ → Result FileHeader ElfError
identified entry =
    if not (le4 entry 0 == ELFMAG) then Err (NotElf 0)
    else if not (slice_index entry 4 == ELFCLASS64) then Err (NotClass64 4)
    else if not (slice_index entry 5 == ELFDATA2LSB) then Err (NotLittleEndian 5)
    else if not (slice_index entry 6 == EV_CURRENT) then Err (UnknownVersion 6)
    else Ok (fields_of entry)

-- the header of a file
unfoldable pub file_header_of : List ℕ → Result FileHeader ElfError
file_header_of file = do
  entry ← block_at file 0 64
  identified entry
