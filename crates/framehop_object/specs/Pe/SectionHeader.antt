-- Section headers ("PE Format", "Section Table (Section Headers)").
use Rattle.std.specs.Prelude.{ℕ, ◌*◌, List, map, take, Result, Ok}
use Rattle.framehop_bytes.specs.Bytes.{◌>>=◌, le4}
use Rattle.framehop_object.specs.Pe.Numbers.{SECTION_HEADER_SIZE}
use Rattle.framehop_object.specs.Pe.Block.{block_at, entries_in}
use Rattle.framehop_object.specs.declared.pe.error.PeError.{PeError}
use Rattle.framehop_object.specs.declared.pe.header.FileHeader.{FileHeader}
use Rattle.framehop_object.specs.declared.pe.section_header.SectionHeader.{SectionHeader}

-- IMAGE_SECTION_HEADER; between PointerToRawData and Characteristics are relocations and line numbers
abbrev pub section_header_of : List ℕ → SectionHeader
section_header_of entry = record {
  name = take 8 entry;
  virtual_size = le4 entry 8;
  virtual_address = le4 entry 12;
  size_of_raw_data = le4 entry 16;
  pointer_to_raw_data = le4 entry 20;
  characteristics = le4 entry 36;
}

-- the entries of the section table
unfoldable pub section_entries_of : List ℕ → FileHeader → Result (List (List ℕ)) PeError
section_entries_of file header = do
  block ← block_at file header.section_table (SECTION_HEADER_SIZE * header.number_of_sections)
  Ok (entries_in SECTION_HEADER_SIZE block)

-- the section headers of a file
unfoldable pub section_headers_of : List ℕ → FileHeader → Result (List SectionHeader) PeError
section_headers_of file header = do
  entries ← section_entries_of file header
  Ok (map section_header_of entries)
