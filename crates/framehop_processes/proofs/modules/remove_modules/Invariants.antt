use Rattle.std.proofs.Common.{◌≡◌, ◌+◌, ◌≤◌, ◌++◌, List, length, take, map}
use Rattle.framehop.specs.Modules.{ModuleView}
use Rattle.framehop_processes.specs.declared.mapping.Mapping.{Mapping}
use Rattle.framehop_processes.specs.Mappings.{IsInOrder}
use Rattle.framehop_processes.specs.Process.{StartsAt}
use Rattle.framehop_processes.proofs.modules.remove_modules.Given as goal

abbrev pub invariant-loop-left : goal.invariant-loop-left
invariant-loop-left g l =
    (l.fn.generations ≤ l.generations)
    × (l.left ≤ length l.removed)
    × ((module_of : Mapping → ModuleView) → StartsAt module_of → (before after : List Mapping)
    → IsInOrder 0 (before ++ (l.removed ++ after))
    → (g.U.Unwinder.unwinder_view l.fn.unwinder).modules ≡ map module_of (before ++ (l.removed ++ after))
    → IsInOrder 0 (before ++ (take l.left l.removed ++ after))
    × ((g.U.Unwinder.unwinder_view l.unwinder).modules ≡ map module_of (before ++ (take l.left l.removed ++ after)))
    × (l.generations + l.left ≡ l.fn.generations + length l.removed))

abbrev pub decreases-loop-left : goal.decreases-loop-left
decreases-loop-left g l = l.left
