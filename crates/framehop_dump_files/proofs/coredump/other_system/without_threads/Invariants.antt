use Rattle.std.proofs.Common.{◌≡◌, drop, map}
use Rattle.framehop_dump_files.specs.Coredump.Note.{placed_view}
use Rattle.framehop_dump_files.specs.Coredump.OtherSystem.{without_threads}
use Rattle.framehop_dump_files.proofs.coredump.other_system.without_threads.Given as goal

abbrev pub invariant-loop-placed : goal.invariant-loop-placed
invariant-loop-placed l = without_threads (map placed_view l.notes) ≡ without_threads (map placed_view (drop l.placed-index l.notes))
