use Rattle.std.proofs.Common.{◌≡◌, map, take}
use Rattle.framehop_processes.proofs.modules.made_modules.Given as goal

abbrev pub invariant-loop-mapping : goal.invariant-loop-mapping
invariant-loop-mapping g l =
    map g.U.Unwinder.module_view l.modules.items ≡ map (g.M.ModuleMaker.module_of l.maker) (take l.mapping-index l.mappings)
