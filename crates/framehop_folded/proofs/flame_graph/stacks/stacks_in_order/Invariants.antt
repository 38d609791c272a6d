use Rattle.std.proofs.Common.{◌≡◌, ◌++◌, map}
use Rattle.framehop_folded.specs.FlameGraph.Stacks.{viewed, viewed_before, stacked, stacked_before, stacks_of, stacks_before}
use Rattle.framehop_folded.proofs.flame_graph.stacks.stacks_in_order.Given as goal

abbrev pub invariant-loop-stack : goal.invariant-loop-stack
invariant-loop-stack l = (map viewed l.stacks.items ++ map stacked l.stack-iterator ≡ stacks_of l.folded)
    × (map viewed_before l.stacks.items ++ map (stacked_before l.before) l.stack-iterator ≡ stacks_before l.folded l.before)
