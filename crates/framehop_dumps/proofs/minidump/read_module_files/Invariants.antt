use Rattle.std.proofs.Common.{map, drop}
use Rattle.framehop_processes.specs.Files.{IsWithoutFiles}
use Rattle.framehop_processes.specs.declared.files.Files.{Files}
use Rattle.framehop_dumps.specs.Added.{AreAdded}
use Rattle.framehop_dumps.specs.Minidump.{loaded_view}
use Rattle.framehop_dumps.proofs.minidump.read_module_files.Given as goal

abbrev pub invariant-loop-module : goal.invariant-loop-module
invariant-loop-module g l =
    (none : Files) × IsWithoutFiles none × ((last : Files)
    → AreAdded (g.S.FileSource.source l.source)
    (map (λ m. (m.name, m.build_id)) (map loaded_view (drop l.module-index l.modules))) l.files last
    → AreAdded (g.S.FileSource.source l.source)
    (map (λ m. (m.name, m.build_id)) (map loaded_view l.modules)) none last)
