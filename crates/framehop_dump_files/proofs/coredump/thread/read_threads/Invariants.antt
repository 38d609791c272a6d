use Rattle.std.proofs.Common.{◌≡◌, drop, map, List}
use Rattle.framehop_dump_files.specs.declared.coredump.thread.Thread.{Thread}
use Rattle.framehop_bytes.specs.Gathered.{IsGathered}
use Rattle.framehop_dump_files.proofs.GatherLemmas.{prepended}
use Rattle.framehop_dump_files.specs.Coredump.Note.{placed_view}
use Rattle.framehop_dump_files.specs.Coredump.Thread.{thread_view, threads_of}
use Rattle.framehop_dump_files.proofs.coredump.thread.read_threads.Given as goal

abbrev pub invariant-loop-index : goal.invariant-loop-index
invariant-loop-index l =
    (before : List Thread) × IsGathered before l.threads
    × (threads_of l.machine (map placed_view l.notes)
    ≡ prepended (map thread_view before) (threads_of l.machine (map placed_view (drop l.index l.notes))))
