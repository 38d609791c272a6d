use Rattle.std.proofs.Common.{map, drop}
use Rattle.framehop_processes.specs.Files.{IsWithoutFiles}
use Rattle.framehop_processes.specs.declared.files.Files.{Files}
use Rattle.framehop_dumps.specs.Added.{AreAddedLeftOut}
use Rattle.framehop_dumps.specs.Dump.{mapped_code_view}
use Rattle.framehop_dump_stacks.proofs.modules.leave_out_files.Given as goal

abbrev pub invariant-loop-code : goal.invariant-loop-code
invariant-loop-code l =
    (none : Files) × IsWithoutFiles none × ((last : Files)
    → AreAddedLeftOut (map (λ code. code.path) (map mapped_code_view (drop l.code-index l.dump.code.items))) l.files last
    → AreAddedLeftOut (map (λ code. code.path) (map mapped_code_view l.dump.code.items)) none last)
