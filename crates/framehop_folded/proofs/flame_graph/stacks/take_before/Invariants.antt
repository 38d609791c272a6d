use Rattle.std.proofs.Common.{◌≡◌, drop, take, map}
use Rattle.framehop_folded.specs.FlameGraph.Stacks.{viewed, viewed_before}
use Rattle.framehop_folded.proofs.flame_graph.stacks.take_before.Given as goal

abbrev pub invariant-loop-stack : goal.invariant-loop-stack
invariant-loop-stack l = (map viewed (take l.stack-index l.stacks) ≡ map viewed_before (take l.stack-index l.initial.stacks))
    × (drop l.stack-index l.stacks ≡ drop l.stack-index l.initial.stacks)
