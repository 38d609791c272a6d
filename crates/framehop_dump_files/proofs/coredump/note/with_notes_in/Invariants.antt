use Rattle.std.proofs.Common.{◌≡◌, ◌+◌, ◌≤◌, ◌++◌, length, map, List}
use Rattle.framehop_dump_files.specs.declared.coredump.note.PlacedNote.{PlacedNote}
use Rattle.framehop_bytes.specs.Gathered.{IsGathered}
use Rattle.framehop_dump_files.proofs.GatherLemmas.{prepended}
use Rattle.framehop_dump_files.specs.Coredump.Note.{placed_view, notes_in}
use Rattle.framehop_dump_files.proofs.coredump.note.with_notes_in.Given as goal

abbrev pub invariant-loop-rest : goal.invariant-loop-rest
invariant-loop-rest l =
    (read : List PlacedNote) × (l.offset + length l.rest ≤ l.fn.start + length l.fn.bytes)
    × ((list : List PlacedNote) → IsGathered list l.fn.notes → IsGathered (list ++ read) l.notes)
    × (notes_in 0 l.fn.start l.fn.bytes ≡ prepended (map placed_view read) (notes_in 0 l.offset l.rest))

abbrev pub decreases-loop-rest : goal.decreases-loop-rest
decreases-loop-rest l = length l.rest
