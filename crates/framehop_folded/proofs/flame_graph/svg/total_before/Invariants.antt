use Rattle.std.proofs.Common.{◌≡◌, ◌+◌, map}
use Rattle.framehop_folded.specs.FlameGraph.Stacks.{stacked_before, stacks_before, total_of}
use Rattle.framehop_folded.proofs.flame_graph.svg.total_before.Given as goal

abbrev pub invariant-loop-stack : goal.invariant-loop-stack
invariant-loop-stack l = l.total + total_of (map (stacked_before l.before) l.stack-iterator) ≡ total_of (stacks_before l.folded l.before)
