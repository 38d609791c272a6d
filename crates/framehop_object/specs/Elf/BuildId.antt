-- The build id of a whole file, in the segments or sections that have notes.
use Rattle.std.specs.Prelude.{ℕ, ◌-◌, List, [], ◌∷◌, length, Option, Some, None, nat_lt, ◌==◌, if◌then◌else◌}
use Rattle.std.specs.Option.{option_or}
use Rattle.std.specs.Result.{result_ok}
use Rattle.framehop_object.specs.Elf.Numbers.{PT_NOTE, SHT_NOTE}
use Rattle.framehop_object.specs.Elf.Block.{block_at}
use Rattle.framehop_object.specs.Elf.Section.{contents_of}
use Rattle.framehop_object.specs.Elf.Note.{build_id_of}
use Rattle.framehop_object.specs.declared.elf.program_header.ProgramHeader.{ProgramHeader}
use Rattle.framehop_object.specs.declared.elf.section_header.SectionHeader.{SectionHeader}

-- the notes of a segment of type PT_NOTE, if the file holds them
abbrev pub notes_of_segment : List ℕ → ProgramHeader → Option (List ℕ)
notes_of_segment file segment =
    if segment.p_type == PT_NOTE then result_ok (block_at file segment.p_offset segment.p_filesz) else None

-- those of a section of type SHT_NOTE, if the file holds them
abbrev pub notes_of_section : List ℕ → SectionHeader → Option (List ℕ)
notes_of_section file section =
    if section.sh_type == SHT_NOTE then result_ok (contents_of file section) else None

-- the build id in notes of which so many bytes may be read, and how many are left: notes that have more are not read
abbrev pub build_id_within : Option (List ℕ) → ℕ → Option (List ℕ) × ℕ
build_id_within None left = (None, left)
build_id_within (Some notes) left =
    if nat_lt left (length notes) then (None, left) else (build_id_of notes, left - length notes)

-- the first that there is
abbrev pub first_in : {A : Type 0} → (A → Option (List ℕ)) → ℕ → List A → Option (List ℕ)
first_in notes left [] = None
first_in notes left (x ∷ xs) = let read = build_id_within (notes x) left in option_or read.0 (first_in notes read.1 xs)

-- That of a file: of its segments, or else of its sections. Neither have more bytes of notes than the file, unless they
-- share them.
abbrev pub build_id_of_file : List ℕ → List ProgramHeader → List SectionHeader → Option (List ℕ)
build_id_of_file file segments sections =
    option_or (first_in (notes_of_segment file) (length file) segments) (first_in (notes_of_section file) (length file) sections)
