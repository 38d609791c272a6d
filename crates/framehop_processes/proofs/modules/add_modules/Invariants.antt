use Rattle.std.proofs.Common.{◌≡◌, ◌+◌, ◌<◌, ◌++◌, List, take, map}
use Rattle.framehop_processes.specs.declared.mapping.Mapping.{Mapping}
use Rattle.framehop_processes.specs.Mappings.{IsInOrder}
use Rattle.framehop_processes.proofs.modules.add_modules.Given as goal

abbrev pub invariant-loop-mapping : goal.invariant-loop-mapping
invariant-loop-mapping g l =
    (l.generations ≡ l.fn.generations + l.mapping-index)
    × (0 < l.mapping-index → (g.U.Unwinder.unwinder_view l.unwinder).generation + 1 ≡ l.generations)
    × ((before after : List Mapping) → IsInOrder 0 (before ++ (l.added ++ after))
    → (g.U.Unwinder.unwinder_view l.fn.unwinder).modules ≡ map (g.M.ModuleMaker.module_of l.maker) (before ++ after)
    → (g.U.Unwinder.unwinder_view l.unwinder).modules ≡ map (g.M.ModuleMaker.module_of l.maker) (before ++ (take l.mapping-index l.added ++ after)))
