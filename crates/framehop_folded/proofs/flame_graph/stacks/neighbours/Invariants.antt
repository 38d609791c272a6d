use Rattle.std.proofs.Common.{◌≡◌, ◌++◌, [], drop, map}
use Rattle.framehop_folded.specs.FlameGraph.Stacks.{viewed}
use Rattle.framehop_folded.specs.FlameGraph.Sweep.{neighbours_of, frames_before}
use Rattle.framehop_folded.proofs.flame_graph.stacks.neighbours.Given as goal

abbrev pub invariant-loop-at : goal.invariant-loop-at
invariant-loop-at l = l.neighbours.items ++ neighbours_of (frames_before (map viewed l.stacks) l.at) (drop l.at (map viewed l.stacks))
    ≡ neighbours_of [] (map viewed l.stacks)
