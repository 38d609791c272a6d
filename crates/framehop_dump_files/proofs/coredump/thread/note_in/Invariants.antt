use Rattle.std.proofs.Common.{◌≡◌, drop, map}
use Rattle.framehop_dump_files.specs.Coredump.Note.{placed_view, is_of}
use Rattle.framehop_dump_files.specs.Coredump.Thread.{note_in}
use Rattle.framehop_dump_files.proofs.coredump.thread.note_in.Given as goal

abbrev pub invariant-loop-index : goal.invariant-loop-index
invariant-loop-index l =
    note_in (is_of l.owner l.n_type) (map placed_view l.later) ≡ note_in (is_of l.owner l.n_type) (map placed_view (drop l.index l.later))
