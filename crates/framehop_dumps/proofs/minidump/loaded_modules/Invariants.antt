use Rattle.framehop_dumps.specs.Minidump.{loaded_view, loaded_in, loaded_size, names_limit}
use Rattle.framehop_dumps.proofs.WithinLemmas.{IsSoFar}
use Rattle.framehop_dumps.proofs.minidump.loaded_modules.Given as goal

abbrev pub invariant-loop-module : goal.invariant-loop-module
invariant-loop-module l =
    IsSoFar loaded_view (loaded_in l.file) loaded_size (names_limit l.file) l.modules l.module-index l.left l.loaded.items
