-- Program headers (gABI, chapter 5, "Program Header").
-- How many there are: "ELF Header", e_phnum.
use Rattle.std.specs.Prelude.{ℕ, List, map, Result, Ok, Err, not, ◌&&◌, ◌==◌, if◌then◌else◌}
use Rattle.framehop_bytes.specs.Bytes.{◌>>=◌, le4, le8}
use Rattle.framehop_object.specs.Elf.Numbers.{PN_XNUM}
use Rattle.framehop_object.specs.Elf.Block.{table_at}
use Rattle.framehop_object.specs.Elf.SectionHeader.{first_section_of}
use Rattle.framehop_object.specs.declared.elf.error.ElfError.{ElfError}
use Rattle.framehop_object.specs.declared.elf.error.ElfError.TheVariants.{BadEntrySize}
use Rattle.framehop_object.specs.declared.elf.header.FileHeader.{FileHeader}
use Rattle.framehop_object.specs.declared.elf.program_header.ProgramHeader.{ProgramHeader}

-- Elf64_Phdr
abbrev pub program_header_of : List ℕ → ProgramHeader
program_header_of entry = record {
  p_type = le4 entry 0;
  p_flags = le4 entry 4;
  p_offset = le8 entry 8;
  p_vaddr = le8 entry 16;
  p_paddr = le8 entry 24;
  p_filesz = le8 entry 32;
  p_memsz = le8 entry 40;
  p_align = le8 entry 48;
}

-- how many segments there are: e_phnum, or sh_info of the first section where that is PN_XNUM
unfoldable pub segment_count_of : List ℕ → FileHeader → Result ℕ ElfError
segment_count_of file header =
    if header.e_phoff == 0 then Ok 0
    else if not (header.e_phnum == PN_XNUM) then Ok header.e_phnum
    else (do
      first ← first_section_of file header
      Ok first.sh_info)

-- the table of a number of segments, each of whose entries has 56 bytes
unfoldable pub segments_of : List ℕ → FileHeader → ℕ → Result (List ProgramHeader) ElfError
segments_of file header count =
    if not (count == 0) && not (header.e_phentsize == 56) then Err (BadEntrySize 54) else (do
      entries ← table_at file header.e_phoff count 56
      Ok (map program_header_of entries))

-- the program headers of a file
unfoldable pub program_headers_of : List ℕ → FileHeader → Result (List ProgramHeader) ElfError
program_headers_of file header = do
  count ← segment_count_of file header
  segments_of file header count
