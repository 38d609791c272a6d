-- Where the headers of an ELF file are, which parts of it are read, and where its sections are told to be then.
use Rattle.std.specs.Prelude.{ℕ, ◌+◌, ◌-◌, ◌*◌, ◌==◌, Bool, not, ◌&&◌, ◌||◌, nat_eq, nat_le, List, [], ◌∷◌, ◌++◌, length, take, drop, max, codes, slice_get, Option, Some, None, Result, Ok, Err, if◌then◌else◌}
use Rattle.std.specs.Int.{to_le_bytes, w64}
use Rattle.std.specs.List.{starts_with}
use Rattle.std.specs.declared.ops.Range.{Range}
use Rattle.framehop_object.specs.Elf.ProgramHeader.{program_headers_of}
use Rattle.framehop_object.specs.Elf.SectionHeader.{section_headers_of}
use Rattle.framehop_object.specs.declared.elf.error.ElfError.{ElfError}
use Rattle.framehop_object.specs.declared.elf.header.FileHeader.{FileHeader}
use Rattle.framehop_object.specs.declared.elf.program_header.ProgramHeader.{ProgramHeader}
use Rattle.framehop_object.specs.declared.elf.section_header.SectionHeader.{SectionHeader}
use Rattle.framehop_object.specs.Pe.Header.{is_pe}
use Rattle.framehop_disk.specs.declared.gaps.Gap.{Gap}
use Rattle.framehop_disk.specs.Gaps.{begins_at, moved}
use Rattle.framehop_disk.specs.Disk.{build_id_in}
use Rattle.framehop_disk.specs.Paths.{is_empty}
use Rattle.framehop_disk.specs.Unasked.{end_of_code, is_inside}
use Rattle.framehop_disk.specs.Wanted.{sum_64}

-- a file may be an ELF or a PE file, by its first bytes
abbrev pub is_object : List ℕ → Bool
is_object front = starts_with nat_eq front (127 ∷ codes "ELF") || is_pe front

-- ---- headers (System V gABI, "ELF Header", "Sections" and "Program Header")

-- the sizes of the file header, of a program header and of a section header of 64 bits
abbrev pub FILE_HEADER : ℕ
FILE_HEADER = 64

abbrev pub PROGRAM_HEADER : ℕ
PROGRAM_HEADER = 56

abbrev pub SECTION_HEADER : ℕ
SECTION_HEADER = 64

-- where the headers end that come before a file's contents: the file header and the program headers
abbrev pub program_headers_end : FileHeader → ℕ
program_headers_end header = max (sum_64 header.e_phoff (PROGRAM_HEADER * header.e_phnum)) FILE_HEADER

-- they are read apart up to this size: 1 MiB
abbrev pub LARGEST_FRONT : ℕ
LARGEST_FRONT = 0x100000

abbrev pub front_size : FileHeader → Option ℕ
front_size header =
    if nat_le (program_headers_end header) LARGEST_FRONT then Some (program_headers_end header) else None

-- the size of the section headers
abbrev pub headers_size : FileHeader → ℕ
headers_size header = SECTION_HEADER * header.e_shnum

-- where a file of a size has them: after the file header, if it has some
abbrev pub headers_place : FileHeader → ℕ → Option (Range ℕ)
headers_place header size =
    if nat_le FILE_HEADER header.e_shoff && not (header.e_shnum == 0) && nat_le (sum_64 header.e_shoff (headers_size header)) size
    then Some (record { start = header.e_shoff; end = sum_64 header.e_shoff (headers_size header) }) else None

-- where the code and the notes of a file end, or its first bytes where that is later, by the program headers in these
abbrev pub code_end_of : ℕ → Result (List ProgramHeader) ElfError → Option ℕ
code_end_of size (Ok headers) = Some (end_of_code size headers)
code_end_of size (Err refusal) = None

abbrev pub code_end_by : List ℕ → FileHeader → Option ℕ
code_end_by front header = code_end_of (length front) (program_headers_of front header)

-- the section headers in a table that begins as many bytes before them as a file header has
abbrev pub headers_in : List ℕ → FileHeader → Result (List SectionHeader) ElfError
headers_in table header = section_headers_of table (record header { e_shoff = FILE_HEADER })

-- the names of sections are read up to this size: 16 MiB
abbrev pub LARGEST_NAMES : ℕ
LARGEST_NAMES = 0x1000000

abbrev pub names_if : ℕ → Option SectionHeader → Option SectionHeader
names_if size None = None
names_if size (Some names) = if is_inside size names && nat_le names.sh_size LARGEST_NAMES then Some names else None

-- the section that has them, by its number in the file header
abbrev pub names_section : FileHeader → List SectionHeader → ℕ → Option SectionHeader
names_section header headers size = names_if size (slice_get headers header.e_shstrndx)

-- ---- parts

-- only of a file with a build id parts are left out
abbrev pub has_build_id : List ℕ → Bool
has_build_id file = not (is_empty (build_id_in file))

-- what is read of a file of a size: what is before, between and after the gaps
abbrev pub kept_from : ℕ → ℕ → List Gap → List (Range ℕ)
kept_from start size [] = record { start = start; end = size } ∷ []
kept_from start size (gap ∷ gaps) = record { start = start; end = gap.start } ∷ kept_from gap.end size gaps

abbrev pub kept_parts : ℕ → List Gap → List (Range ℕ)
kept_parts size gaps = kept_from 0 size gaps

-- ---- where sections are told to be

-- a number in 8 bytes from an offset on, as many of them as there are
abbrev pub written : List ℕ → ℕ → ℕ → List ℕ
written bytes offset number =
    (take offset bytes ++ take (length bytes - offset) (to_le_bytes w64 number)) ++ drop (offset + 8) bytes

-- `sh_offset`, at 24 of a section header, is where the section is; `sh_size`, at 32, is 0 where it is left out
abbrev pub with_offset : List Gap → ℕ → SectionHeader → List ℕ → List ℕ
with_offset gaps place section bytes = written bytes (sum_64 place 24) (moved gaps section.sh_offset)

abbrev pub with_size : List Gap → ℕ → SectionHeader → List ℕ → List ℕ
with_size gaps place section bytes =
    if begins_at section.sh_offset gaps then written bytes (sum_64 place 32) 0 else bytes

abbrev pub with_section : List Gap → ℕ → SectionHeader → List ℕ → List ℕ
with_section gaps place section bytes = with_size gaps place section (with_offset gaps place section bytes)

-- of all sections, whose headers begin at a place
abbrev pub with_sections : List Gap → ℕ → List SectionHeader → List ℕ → List ℕ
with_sections gaps place [] bytes = bytes
with_sections gaps place (section ∷ sections) bytes =
    with_sections gaps (sum_64 place SECTION_HEADER) sections (with_section gaps place section bytes)

-- the bytes of a file without gaps, whose section headers began at an offset: `e_shoff`, at 40, is where they are
abbrev pub with_moved : List Gap → ℕ → List SectionHeader → List ℕ → List ℕ
with_moved gaps offset sections bytes =
    with_sections gaps (moved gaps offset) sections (written bytes 40 (moved gaps offset))
