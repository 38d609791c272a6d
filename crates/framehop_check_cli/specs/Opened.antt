-- What an ELF file has to be checked by (System V gABI, chapter 4, "Sections" and "Symbol Table").
use Rattle.std.specs.Prelude.{ℕ, ◌≡◌, List, [], map, Option, Some, None, Result, Ok, IsPermutation}
use Rattle.framehop_cfi.specs.Section.{Section, section_of}
use Rattle.framehop_cfi.specs.declared.entry.UnwindSectionType.{UnwindSectionType}
use Rattle.framehop_object.specs.Elf.Decompressed.{decompressed_of}
use Rattle.framehop_object.specs.Elf.ElfFile.{ElfFile, elf_file_of}
use Rattle.framehop_object.specs.Elf.Symbol.{function_symbols_of, symbol_names_of}
use Rattle.framehop_object.specs.declared.elf.error.ElfError.{ElfError}
use Rattle.framehop_object.specs.declared.elf.section_header.SectionHeader.{SectionHeader}
use Rattle.framehop_object.specs.declared.elf.symbol.Symbol.{Symbol}
use Rattle.framehop_check.specs.declared.sections.CodeSection.{CodeSection}
use Rattle.framehop_check_cli.specs.Parts.{code_of, code_view, range_of_symbol, rows_section, symbol_section}
use Rattle.framehop_check_cli.specs.declared.file.Opened.{Opened}
use Rattle.framehop_check_cli.specs.declared.file.Parts.{Parts}
use Rattle.framehop_check_cli.specs.declared.file.Rows.{Rows}

-- the symbols of functions by a table of symbols, and its strings; there are none without a table
abbrev pub symbols_by : ElfFile → Option SectionHeader → Result (List Symbol) ElfError
symbols_by elf None = Ok []
symbols_by elf (Some table) = function_symbols_of elf.bytes elf.sections table

abbrev pub strings_by : ElfFile → Option SectionHeader → Result (List ℕ) ElfError
strings_by elf None = Ok []
strings_by elf (Some table) = symbol_names_of elf.bytes elf.sections table

-- a file's code, the symbols of its functions, and their names
pub record ArePartsOf (elf : ElfFile) (parts : Parts) : Type 0 where
  pub code : (sections : List CodeSection) × (map code_view sections ≡ code_of elf.bytes elf.sections)
      × IsPermutation sections parts.code
  pub symbols : (symbols : List Symbol) × (symbols_by elf (symbol_section elf) ≡ Ok symbols)
      × IsPermutation symbols parts.symbols × (parts.functions.items ≡ map range_of_symbol symbols)
  pub strings : strings_by elf (symbol_section elf) ≡ Ok parts.strings.now

-- the section that has the rows, decompressed, and where it is in memory
pub record IsRowsSection (elf : ElfFile) (section : SectionHeader) (kind : UnwindSectionType) (rows : Rows) : Type 0 where
  pub contents : decompressed_of elf.bytes section ≡ Ok rows.contents.items
  pub address : rows.address ≡ section.sh_addr
  pub is_of : rows.kind ≡ kind

abbrev pub AreRowsBy : ElfFile → Option (SectionHeader × UnwindSectionType) → Option Rows → Type 0
AreRowsBy elf None rows = rows ≡ None
AreRowsBy elf (Some found) None = ⊥
AreRowsBy elf (Some found) (Some rows) = IsRowsSection elf found.0 found.1 rows

-- what a file has to be checked by
pub record IsOpened (file : List ℕ) (opened : Opened) : Type 0 where
  pub elf : ElfFile
  pub read : elf_file_of file ≡ Ok elf
  pub machine : opened.machine ≡ elf.header.e_machine
  pub parts : ArePartsOf elf opened.parts
  pub rows : AreRowsBy elf (rows_section elf) opened.rows

-- the section of rows, of which only `.eh_frame`'s own address is known
abbrev pub rows_of : Rows → Section
rows_of rows = section_of rows.kind (record { eh_frame = rows.address; eh_frame_hdr = 0; text = 0; got = 0 }) rows.contents.items
