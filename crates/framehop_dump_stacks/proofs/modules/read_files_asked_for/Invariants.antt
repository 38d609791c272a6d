use Rattle.std.proofs.Common.{◌≡◌, false, map, drop}
use Rattle.framehop_processes.specs.declared.files.Files.{Files}
use Rattle.framehop_dumps.specs.Added.{AreReadSince}
use Rattle.framehop_dumps.specs.Dump.{mapped_code_view}
use Rattle.framehop_dump_stacks.proofs.modules.read_files_asked_for.Given as goal

abbrev pub invariant-loop-code : goal.invariant-loop-code
invariant-loop-code g l =
    ((last : Files)
    → AreReadSince (g.S.FileSource.source l.source) l.all
    (map (λ code. (code.path, code.build_id)) (map mapped_code_view (drop l.code-index l.dump.code.items))) l.files last
    → AreReadSince (g.S.FileSource.source l.source) l.all
    (map (λ code. (code.path, code.build_id)) (map mapped_code_view l.dump.code.items)) l.initial.files last)
    × (l.is_any_read ≡ false → l.files ≡ l.initial.files)
