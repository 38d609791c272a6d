-- What sections hold, and what they are called ("PE Format", "Section Table (Section Headers)").
use Rattle.std.specs.Prelude.{ℕ, ◌+◌, List, min, Option, nat_eq, Result}
use Rattle.std.specs.List.{find}
use Rattle.std.specs.Cmp.Lexicographic.{pointwise}
use Rattle.std.specs.declared.ops.Range.{Range}
use Rattle.framehop_bytes.specs.String.{string_of}
use Rattle.framehop_object.specs.Pe.Block.{block_at}
use Rattle.framehop_object.specs.declared.pe.error.PeError.{PeError}
use Rattle.framehop_object.specs.declared.pe.section_header.SectionHeader.{SectionHeader}

-- Name, which is filled up with zeros where it has fewer than 8 bytes: the bytes before the first 0
abbrev pub name_of : SectionHeader → List ℕ
name_of section = string_of section.name 0

-- the first section of a name
abbrev pub section_called : List SectionHeader → List ℕ → Option SectionHeader
section_called sections name = find (λ section. pointwise nat_eq (name_of section) name) sections

-- how many bytes the file has of a section: SizeOfRawData counts padding, and VirtualSize zeros that are only in memory
abbrev pub size_in_file : SectionHeader → ℕ
size_in_file section = min section.size_of_raw_data section.virtual_size

-- where a section is in memory
abbrev pub rva_range : SectionHeader → Range ℕ
rva_range section = record { start = section.virtual_address; end = section.virtual_address + section.virtual_size }

-- what the file has of a section
abbrev pub contents_of : List ℕ → SectionHeader → Result (List ℕ) PeError
contents_of file section = block_at file section.pointer_to_raw_data (size_in_file section)
