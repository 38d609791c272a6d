use Rattle.std.proofs.Common.{◌≡◌, ◌+◌, drop, take}
use Rattle.std.specs.List.{sum_by}
use Rattle.framehop_folded.specs.FlameGraph.Sweep.{count_along}
use Rattle.framehop_folded.proofs.flame_graph.boxes.count_along.Given as goal

abbrev pub invariant-loop-stack : goal.invariant-loop-stack
invariant-loop-stack l = (count_along l.depth l.later ≡ l.count + count_along l.depth (drop l.stack-index l.later))
    × (l.count ≡ sum_by (λ stack. stack.count) (take l.stack-index l.later))
