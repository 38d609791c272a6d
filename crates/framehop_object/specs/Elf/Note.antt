-- Notes (gABI, chapter 5, "Note Section"). As linkers write them, names and descriptors are padded to four bytes in files
-- of 64 bits too.
-- A build id is the note of the linker's option `--build-id`.
use Rattle.std.specs.Prelude.{ℕ, zero, suc, ◌+◌, ◌-◌, ◌*◌, ◌/◌, List, [], ◌∷◌, length, take, drop, Bool, Option, Some, None, option_map, nat_eq, nat_le, ◌&&◌, ◌==◌, if◌then◌else◌}
use Rattle.std.specs.List.{find}
use Rattle.std.specs.Cmp.Lexicographic.{pointwise}
use Rattle.framehop_bytes.specs.Bytes.{le4}
use Rattle.framehop_object.specs.Elf.Numbers.{NT_GNU_BUILD_ID}
use Rattle.framehop_object.specs.declared.elf.note.ElfNote.{ElfNote}

-- a note by its values
pub record NoteView : Type 0 where
  pub name : List ℕ
  pub n_type : ℕ
  pub descriptor : List ℕ

abbrev pub note_view : ElfNote → NoteView
note_view note = record { name = note.name.now; n_type = note.n_type; descriptor = note.descriptor.now }

-- the next multiple of four
abbrev pub padded : ℕ → ℕ
padded size = (size + 3) / 4 * 4

-- where the descriptor begins and ends: the name is after n_namesz, n_descsz and n_type
abbrev pub descriptor_start : List ℕ → ℕ
descriptor_start bytes = padded (12 + le4 bytes 0)

abbrev pub descriptor_end : List ℕ → ℕ
descriptor_end bytes = descriptor_start bytes + le4 bytes 4

-- the note that begins with these bytes
abbrev pub note_of : List ℕ → NoteView
note_of bytes = record {
  name = take (le4 bytes 0) (drop 12 bytes);
  n_type = le4 bytes 8;
  descriptor = take (le4 bytes 4) (drop (descriptor_start bytes) bytes);
}

-- the same, if the bytes hold it, and how many bytes it takes
unfoldable pub note_at : List ℕ → Option (NoteView × ℕ)
note_at bytes =
    if nat_le 12 (length bytes) && nat_le (descriptor_end bytes) (length bytes)
    then Some (note_of bytes, padded (descriptor_end bytes)) else None

-- the note that was read, and those after it; none after one that the bytes don't hold
abbrev pub notes_after : Option (NoteView × ℕ) → (ℕ → List NoteView) → List NoteView
notes_after (Some read) next = read.0 ∷ next read.1
notes_after None next = []

-- The notes in bytes, up to the first that they don't hold. `skipped` counts the bytes at their front that belong to a
-- note before.
unfoldable pub notes_in : ℕ → List ℕ → List NoteView
notes_in skipped [] = []
notes_in (suc skipped) (byte ∷ bytes) = notes_in skipped bytes
notes_in zero (byte ∷ bytes) = notes_after (note_at (byte ∷ bytes)) (λ size. notes_in (size - 1) bytes)

-- NT_GNU_BUILD_ID of "GNU"
abbrev pub is_build_id : NoteView → Bool
is_build_id note = (note.n_type == NT_GNU_BUILD_ID) && pointwise nat_eq note.name (71 ∷ 78 ∷ 85 ∷ 0 ∷ [])

-- the build id in notes
abbrev pub build_id_of : List ℕ → Option (List ℕ)
build_id_of bytes = option_map (λ note. note.descriptor) (find is_build_id (notes_in 0 bytes))
