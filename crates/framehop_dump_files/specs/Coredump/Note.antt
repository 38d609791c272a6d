-- The notes of a core file (gABI, chapter 5, "Note Section"): those of its segments of type PT_NOTE, in their order.
use Rattle.std.specs.Prelude.{ℕ, zero, suc, ◌+◌, ◌-◌, List, [], ◌∷◌, ◌++◌, length, Bool, Option, Some, None, nat_eq, nat_lt, ◌&&◌, ◌==◌, Result, Ok, Err, if◌then◌else◌}
use Rattle.std.specs.Cmp.Lexicographic.{pointwise}
use Rattle.framehop_bytes.specs.Bytes.{◌>>=◌}
use Rattle.framehop_object.specs.Elf.Numbers.{PT_NOTE}
use Rattle.framehop_object.specs.Elf.Block.{block_at}
use Rattle.framehop_object.specs.Elf.Note.{NoteView, note_view, note_at}
use Rattle.framehop_object.specs.declared.elf.program_header.ProgramHeader.{ProgramHeader}
use Rattle.framehop_dump_files.specs.Coredump.Refusal.{from_elf}
use Rattle.framehop_dump_files.specs.declared.coredump.error.CoreFileError.{CoreFileError}
use Rattle.framehop_dump_files.specs.declared.coredump.error.CoreFileError.TheVariants.{NoteBeyondSegment, SharedNotes}
use Rattle.framehop_dump_files.specs.declared.coredump.note.PlacedNote.{PlacedNote}

-- a note by its values, and where it is in the file
pub record PlacedView : Type 0 where
  pub offset : ℕ
  pub note : NoteView

abbrev pub placed_view : PlacedNote → PlacedView
placed_view placed = record { offset = placed.offset; note = note_view placed.note }

-- a note is of an owner, and of one of its types
abbrev pub is_of : List ℕ → ℕ → PlacedView → Bool
is_of owner n_type placed = (placed.note.n_type == n_type) && pointwise nat_eq placed.note.name owner

-- the note at the front of bytes, which are at an offset of the file, and how many bytes it takes
abbrev pub placed_note : ℕ → Option (NoteView × ℕ) → Result (PlacedView × ℕ) CoreFileError
placed_note offset (Some read) = Ok (record { offset = offset; note = read.0 }, read.1)
placed_note offset None = Err (NoteBeyondSegment offset)

unfoldable pub placed_at : ℕ → List ℕ → Result (PlacedView × ℕ) CoreFileError
placed_at offset bytes = placed_note offset (note_at bytes)

-- the note that was read, and those after it, or the first refusal
abbrev pub notes_after : Result (PlacedView × ℕ) CoreFileError → (ℕ → Result (List PlacedView) CoreFileError) → Result (List PlacedView) CoreFileError
notes_after read next = do
  first ← read
  others ← next first.1
  Ok (first.0 ∷ others)

-- The notes in bytes, which are at an offset of the file, or why the first that is refused is. `skipped` counts the bytes
-- at their front that belong to a note before.
unfoldable pub notes_in : ℕ → ℕ → List ℕ → Result (List PlacedView) CoreFileError
notes_in skipped offset [] = Ok []
notes_in (suc skipped) offset (byte ∷ bytes) = notes_in skipped (offset + 1) bytes
notes_in zero offset (byte ∷ bytes) =
    notes_after (placed_at offset (byte ∷ bytes)) (λ size. notes_in (size - 1) (offset + 1) bytes)

-- how many bytes of notes a segment has
abbrev pub notes_size : ProgramHeader → ℕ
notes_size segment = if segment.p_type == PT_NOTE then segment.p_filesz else 0

-- Those of a segment, of which the file must have all bytes, and which may have so many bytes.
unfoldable pub notes_of_segment : List ℕ → ℕ → ProgramHeader → Result (List PlacedView) CoreFileError
notes_of_segment file left segment = if segment.p_type == PT_NOTE then (do
  block ← from_elf (block_at file segment.p_offset segment.p_filesz)
  if nat_lt left segment.p_filesz then Err (SharedNotes segment.p_offset) else notes_in 0 segment.p_offset block) else Ok []

-- those of all segments, which may have so many bytes
unfoldable pub notes_among : List ℕ → ℕ → List ProgramHeader → Result (List PlacedView) CoreFileError
notes_among file left [] = Ok []
notes_among file left (segment ∷ segments) = do
  notes ← notes_of_segment file left segment
  others ← notes_among file (left - notes_size segment) segments
  Ok (notes ++ others)

-- those of a file: its segments of notes have no more bytes than it has
abbrev pub notes_of : List ℕ → List ProgramHeader → Result (List PlacedView) CoreFileError
notes_of file segments = notes_among file (length file) segments
