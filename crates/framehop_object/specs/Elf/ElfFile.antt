-- An ELF file with its sections and their names (gABI, chapter 4).
use Rattle.std.specs.Prelude.{ℕ, List, Option, Result, Ok, nat_eq}
use Rattle.std.specs.List.{find}
use Rattle.std.specs.Cmp.Lexicographic.{pointwise}
use Rattle.framehop_bytes.specs.Bytes.{◌>>=◌}
use Rattle.framehop_bytes.specs.String.{string_of}
use Rattle.framehop_object.specs.Elf.Header.{file_header_of}
use Rattle.framehop_object.specs.Elf.Section.{section_names_of}
use Rattle.framehop_object.specs.Elf.SectionHeader.{section_headers_of}
use Rattle.framehop_object.specs.declared.elf.error.ElfError.{ElfError}
use Rattle.framehop_object.specs.declared.elf.header.FileHeader.{FileHeader}
use Rattle.framehop_object.specs.declared.elf.section_header.SectionHeader.{SectionHeader}

-- the bytes of a file, its header, its sections, and the string table that has their names
pub record ElfFile : Type 0 where
  pub bytes : List ℕ
  pub header : FileHeader
  pub sections : List SectionHeader
  pub names : List ℕ

-- the file of these bytes with this header, or the first refusal
unfoldable pub elf_file_with : List ℕ → FileHeader → Result ElfFile ElfError
elf_file_with bytes header = do
  sections ← section_headers_of bytes header
  names ← section_names_of bytes header sections
  Ok (record { bytes = bytes; header = header; sections = sections; names = names })

unfoldable pub elf_file_of : List ℕ → Result ElfFile ElfError
elf_file_of bytes = do
  header ← file_header_of bytes
  elf_file_with bytes header

-- the first section of a name
abbrev pub first_called : List SectionHeader → List ℕ → List ℕ → Option SectionHeader
first_called sections names name = find (λ section. pointwise nat_eq (string_of names section.sh_name) name) sections

abbrev pub section_called : ElfFile → List ℕ → Option SectionHeader
section_called elf name = first_called elf.sections elf.names name
