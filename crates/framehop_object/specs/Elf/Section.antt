-- What sections hold, and where their names are (gABI, chapter 4, "Sections" and "String Table").
-- Which section has the names: "ELF Header", e_shstrndx.
use Rattle.std.specs.Prelude.{ℕ, List, [], Option, Some, None, bit_and, not, Result, Ok, Err, ◌==◌, if◌then◌else◌}
use Rattle.std.specs.List.{slice_get}
use Rattle.framehop_bytes.specs.Bytes.{◌>>=◌}
use Rattle.framehop_object.specs.Elf.Numbers.{SHN_UNDEF, SHN_XINDEX, SHT_NOBITS, SHF_COMPRESSED}
use Rattle.framehop_object.specs.Elf.Block.{block_at}
use Rattle.framehop_object.specs.Elf.SectionHeader.{first_section_of}
use Rattle.framehop_object.specs.declared.elf.error.ElfError.{ElfError}
use Rattle.framehop_object.specs.declared.elf.error.ElfError.TheVariants.{Compressed, NoSuchSection}
use Rattle.framehop_object.specs.declared.elf.header.FileHeader.{FileHeader}
use Rattle.framehop_object.specs.declared.elf.section_header.SectionHeader.{SectionHeader}

-- the size of a section in the file: that of SHT_NOBITS is 0
abbrev pub size_in_file : SectionHeader → ℕ
size_in_file section = if section.sh_type == SHT_NOBITS then 0 else section.sh_size

-- what a section holds: nothing in the file where it is SHT_NOBITS; SHF_COMPRESSED is refused
unfoldable pub contents_of : List ℕ → SectionHeader → Result (List ℕ) ElfError
contents_of file section =
    if section.sh_type == SHT_NOBITS then Ok []
    else if not (bit_and section.sh_flags SHF_COMPRESSED == 0) then Err (Compressed section.sh_offset)
    else block_at file section.sh_offset section.sh_size

-- the index of the section of names: e_shstrndx, or sh_link of the first section where that is SHN_XINDEX
unfoldable pub names_index_of : List ℕ → FileHeader → Result ℕ ElfError
names_index_of file header =
    if not (header.e_shstrndx == SHN_XINDEX) then Ok header.e_shstrndx
    else (do
      first ← first_section_of file header
      Ok first.sh_link)

-- what the section of names holds, which the field at 62 names
abbrev pub names_in : List ℕ → Option SectionHeader → Result (List ℕ) ElfError
names_in file (Some section) = contents_of file section
names_in file None = Err (NoSuchSection 62)

-- the names of sections: none where the index is SHN_UNDEF
unfoldable pub section_names_of : List ℕ → FileHeader → List SectionHeader → Result (List ℕ) ElfError
section_names_of file header sections = do
  index ← names_index_of file header
  if index == SHN_UNDEF then Ok [] else names_in file (slice_get sections index)
