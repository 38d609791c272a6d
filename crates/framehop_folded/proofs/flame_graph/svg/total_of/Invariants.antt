use Rattle.std.proofs.Common.{◌≡◌, ◌+◌, map}
use Rattle.framehop_folded.specs.FlameGraph.Stacks.{stacked, stacks_of, total_of}
use Rattle.framehop_folded.proofs.flame_graph.svg.total_of.Given as goal

abbrev pub invariant-loop-count : goal.invariant-loop-count
invariant-loop-count l = l.total + total_of (map stacked l.count-iterator) ≡ total_of (stacks_of l.folded)
