use Rattle.std.proofs.Common.{◌≡◌, []}
use Rattle.framehop.specs.Loaded.{with_modules}
use Rattle.framehop.proofs.module_list.ModuleList.of_modules.Given as goal

abbrev pub invariant-loop-module : goal.invariant-loop-module
invariant-loop-module g l =
    with_modules l.module-iterator.rest.items l.list ≡ with_modules l.fn.modules.items []
