-- Section headers (gABI, chapter 4, "Sections").
-- How many there are: "ELF Header", e_shnum.
use Rattle.std.specs.Prelude.{ℕ, List, map, Result, Ok, Err, not, ◌&&◌, ◌==◌, if◌then◌else◌}
use Rattle.framehop_bytes.specs.Bytes.{◌>>=◌, le4, le8}
use Rattle.framehop_object.specs.Elf.Block.{block_at, table_at}
use Rattle.framehop_object.specs.declared.elf.error.ElfError.{ElfError}
use Rattle.framehop_object.specs.declared.elf.error.ElfError.TheVariants.{BadEntrySize, NoSuchSection}
use Rattle.framehop_object.specs.declared.elf.header.FileHeader.{FileHeader}
use Rattle.framehop_object.specs.declared.elf.section_header.SectionHeader.{SectionHeader}

-- Elf64_Shdr
abbrev pub section_header_of : List ℕ → SectionHeader
section_header_of entry = record {
  sh_name = le4 entry 0;
  sh_type = le4 entry 4;
  sh_flags = le8 entry 8;
  sh_addr = le8 entry 16;
  sh_offset = le8 entry 24;
  sh_size = le8 entry 32;
  sh_link = le4 entry 40;
  sh_info = le4 entry 44;
  sh_addralign = le8 entry 48;
  sh_entsize = le8 entry 56;
}

-- The section of index 0, in which numbers are that don't fit the fields of the ELF header. A file whose e_shoff is 0 has
-- no sections.
unfoldable pub first_section_of : List ℕ → FileHeader → Result SectionHeader ElfError
first_section_of file header = if header.e_shoff == 0 then Err (NoSuchSection 40) else (do
  entry ← block_at file header.e_shoff 64
  Ok (section_header_of entry))

-- how many sections there are: e_shnum, or sh_size of the first where that is 0
unfoldable pub section_count_of : List ℕ → FileHeader → Result ℕ ElfError
section_count_of file header =
    if header.e_shoff == 0 then Ok 0
    else if not (header.e_shnum == 0) then Ok header.e_shnum
    else (do
      first ← first_section_of file header
      Ok first.sh_size)

-- the table of a number of sections, each of whose entries has 64 bytes
unfoldable pub sections_of : List ℕ → FileHeader → ℕ → Result (List SectionHeader) ElfError
sections_of file header count =
    if not (count == 0) && not (header.e_shentsize == 64) then Err (BadEntrySize 58) else (do
      entries ← table_at file header.e_shoff count 64
      Ok (map section_header_of entries))

-- the section headers of a file
unfoldable pub section_headers_of : List ℕ → FileHeader → Result (List SectionHeader) ElfError
section_headers_of file header = do
  count ← section_count_of file header
  sections_of file header count
