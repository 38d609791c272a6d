-- The sections of an ELF file of which neither unwinding nor names ask for a byte.
use Rattle.std.specs.Prelude.{ℕ, ◌≡◌, ◌==◌, ◌-◌, Bool, true, not, ◌&&◌, ◌||◌, nat_eq, nat_le, nat_lt, List, [], ◌∷◌, ◌++◌, drop, map, max, bit_and, codes, IsPermutation, if◌then◌else◌}
use Rattle.std.specs.List.{filter, fold, list_all, starts_with}
use Rattle.std.specs.declared.ops.Range.{Range}
use Rattle.framehop_object.specs.Elf.Numbers.{PF_X, PT_NOTE, SHF_EXECINSTR, SHT_NOBITS}
use Rattle.framehop_object.specs.declared.elf.program_header.ProgramHeader.{ProgramHeader}
use Rattle.framehop_object.specs.declared.elf.section_header.SectionHeader.{SectionHeader}
use Rattle.framehop_disk.specs.declared.gaps.Gap.{Gap}
use Rattle.framehop_disk.specs.Gaps.{are_apart, gaps_of, is_kept}
use Rattle.framehop_disk.specs.Wanted.{sum_64}

-- `SHT_PROGBITS`: what the program defines (System V gABI, "Sections")
abbrev pub SHT_PROGBITS : ℕ
SHT_PROGBITS = 1

-- a name ends with 0
abbrev pub is_called : List ℕ → List ℕ → Bool
is_called bytes name = starts_with nat_eq bytes (name ++ 0 ∷ [])

-- of data that no process changes so many bytes are read: 4 MiB
abbrev pub LARGEST_CONSTANTS : ℕ
LARGEST_CONSTANTS = 0x400000

-- the name of a section with data that a process changes or, by its size, much that it doesn't, or of one that debuggers
-- read
unfoldable pub is_name_unasked : List ℕ → ℕ → Bool
is_name_unasked bytes size =
    (is_called bytes (codes ".rodata") && nat_lt LARGEST_CONSTANTS size) || is_called bytes (codes ".data")
    || (starts_with nat_eq bytes (codes ".debug_") && not (is_called bytes (codes ".debug_frame")))

-- such a section, which has bytes and no code
abbrev pub is_unasked : List ℕ → SectionHeader → Bool
is_unasked names section =
    is_name_unasked (drop section.sh_name names) section.sh_size && (section.sh_type == SHT_PROGBITS)
    && (bit_and section.sh_flags SHF_EXECINSTR == 0) && nat_lt 0 section.sh_size

-- a file of a size has all bytes of a section
abbrev pub is_inside : ℕ → SectionHeader → Bool
is_inside size section = nat_le section.sh_offset size && nat_le section.sh_size (size - section.sh_offset)

-- where it is in the file
abbrev pub part_of : SectionHeader → Range ℕ
part_of section = record { start = section.sh_offset; end = sum_64 section.sh_offset section.sh_size }

-- the parts of a file of a size that nothing asks for
abbrev pub unasked_parts : List ℕ → ℕ → List SectionHeader → List (Range ℕ)
unasked_parts names size headers =
    map part_of (filter (λ section. is_unasked names section && is_inside size section) headers)

-- gaps are these parts in some order, apart, and after the code
abbrev pub IsOfParts : ℕ → List (Range ℕ) → List Gap → Type 0
IsOfParts code_end parts gaps =
    (ordered : List (Range ℕ)) × IsPermutation parts ordered × (are_apart code_end ordered ≡ true) × (gaps ≡ gaps_of 0 ordered)

-- all bytes of the other sections are kept beside gaps
abbrev pub is_section_kept : List ℕ → List Gap → SectionHeader → Bool
is_section_kept names gaps section =
    (section.sh_type == SHT_NOBITS) || is_unasked names section || is_kept gaps section.sh_offset section.sh_size

abbrev pub are_kept : List ℕ → List Gap → List SectionHeader → Bool
are_kept names gaps headers = list_all (is_section_kept names gaps) headers

-- where the last segment of code or of notes ends, if that is after an end
abbrev pub later_end : ℕ → ProgramHeader → ℕ
later_end end segment =
    if (segment.p_type == PT_NOTE) || not (bit_and segment.p_flags PF_X == 0)
    then max end (sum_64 segment.p_offset segment.p_filesz) else end

abbrev pub end_of_code : ℕ → List ProgramHeader → ℕ
end_of_code end headers = fold later_end end headers
