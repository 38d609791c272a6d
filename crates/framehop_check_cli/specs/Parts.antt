-- Which parts of an ELF file are looked at (System V gABI, chapter 4, "Sections"; LSB, ".eh_frame"), and when a file is good.
use Rattle.std.specs.Prelude.{ℕ, ◌+◌, Bool, not, ◌&&◌, codes, List, [], ◌∷◌, length, Option, Some, None, option_map, Result, Ok, Err, nat_eq, bit_and, if◌then◌else◌}
use Rattle.std.specs.Io.Iter.{u64_saturate}
use Rattle.framehop_cfi.specs.declared.entry.UnwindSectionType.{UnwindSectionType}
use Rattle.framehop_cfi.specs.declared.entry.UnwindSectionType.TheVariants.{EhFrame, DebugFrame}
use Rattle.framehop_object.specs.Elf.ElfFile.{ElfFile, section_called}
use Rattle.framehop_object.specs.Elf.Section.{contents_of}
use Rattle.framehop_object.specs.declared.elf.error.ElfError.{ElfError}
use Rattle.framehop_object.specs.declared.elf.section_header.SectionHeader.{SectionHeader}
use Rattle.framehop_object.specs.declared.elf.symbol.Symbol.{Symbol}
use Rattle.framehop_check.specs.declared.missing.Range.{Range}
use Rattle.framehop_check.specs.declared.report.Counts.{Counts}
use Rattle.framehop_check.specs.declared.sections.CodeSection.{CodeSection}
use Rattle.framehop_check_cli.specs.declared.findings.Others.{Others}

-- rows are in `.eh_frame`, or else in `.debug_frame`
abbrev pub eh_frame_or : Option SectionHeader → Option SectionHeader → Option (SectionHeader × UnwindSectionType)
eh_frame_or (Some section) other = Some (section, EhFrame)
eh_frame_or None other = option_map (λ section. (section, DebugFrame)) other

abbrev pub rows_section : ElfFile → Option (SectionHeader × UnwindSectionType)
rows_section elf = eh_frame_or (section_called elf (codes ".eh_frame")) (section_called elf (codes ".debug_frame"))

-- symbols are in `.symtab`, or else in `.dynsym`
abbrev pub one_or : Option SectionHeader → Option SectionHeader → Option SectionHeader
one_or (Some section) other = Some section
one_or None other = other

abbrev pub symbol_section : ElfFile → Option SectionHeader
symbol_section elf = one_or (section_called elf (codes ".symtab")) (section_called elf (codes ".dynsym"))

-- the addresses of a function
abbrev pub range_of_symbol : Symbol → Range
range_of_symbol symbol = record { start = symbol.st_value; end = u64_saturate (symbol.st_value + symbol.size) }

-- a section of code: SHF_EXECINSTR
abbrev pub has_code : SectionHeader → Bool
has_code section = not (nat_eq (bit_and section.sh_flags 4) 0)

-- its first address and what it holds, if the file has some of it
abbrev pub code_view : CodeSection → ℕ × List ℕ
code_view section = (section.address, section.contents.now)

abbrev pub code_by : ℕ → Result (List ℕ) ElfError → Option (ℕ × List ℕ)
code_by address (Ok contents) = if nat_eq (length contents) 0 then None else Some (address, contents)
code_by address (Err error) = None

abbrev pub code_in_section : List ℕ → SectionHeader → Option (ℕ × List ℕ)
code_in_section file section = if has_code section then code_by section.sh_addr (contents_of file section) else None

-- the code of a file
abbrev pub with_code : Option (ℕ × List ℕ) → List (ℕ × List ℕ) → List (ℕ × List ℕ)
with_code None others = others
with_code (Some code) others = code ∷ others

abbrev pub code_of : List ℕ → List SectionHeader → List (ℕ × List ℕ)
code_of file [] = []
code_of file (section ∷ sections) = with_code (code_in_section file section) (code_of file sections)

-- no alarms but allowed ones, and each entry was read and checked
abbrev pub is_good : Counts → Others → Bool
is_good counts others =
    nat_eq counts.alarmed others.allowed && (nat_eq others.unreadable 0 && nat_eq others.sharing 0)
