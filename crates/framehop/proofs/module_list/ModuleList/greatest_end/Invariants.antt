use Rattle.std.proofs.Common.{◌≡◌, max, drop}
use Rattle.framehop.specs.Modules.{greatest_end}
use Rattle.framehop.proofs.module_list.ModuleList.greatest_end.Given as goal

abbrev pub invariant-loop-module : goal.invariant-loop-module
invariant-loop-module g l =
    max l.greatest (greatest_end (drop l.module-index l.module-items)) ≡ greatest_end l.module-items
