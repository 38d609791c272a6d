use Rattle.std.proofs.Common.{◌≡◌, drop, map, List}
use Rattle.framehop_dump_files.specs.declared.coredump.note.PlacedNote.{PlacedNote}
use Rattle.framehop_bytes.specs.Gathered.{IsGathered}
use Rattle.framehop_dump_files.proofs.GatherLemmas.{prepended}
use Rattle.framehop_dump_files.specs.Coredump.Note.{placed_view, notes_among, notes_of}
use Rattle.framehop_dump_files.proofs.coredump.note.read_notes.Given as goal

abbrev pub invariant-loop-segment : goal.invariant-loop-segment
invariant-loop-segment l =
    (before : List PlacedNote) × IsGathered before l.notes
    × (notes_of l.file l.segments ≡ prepended (map placed_view before) (notes_among l.file l.left (drop l.segment-index l.segments)))
