use Rattle.std.proofs.Common.{◌≡◌, ◌++◌, ◌∷◌, [], drop, take, map}
use Rattle.framehop_folded.specs.FlameGraph.Boxes.{boxed, root_of}
use Rattle.framehop_folded.specs.FlameGraph.Stacks.{viewed, total_of}
use Rattle.framehop_folded.specs.FlameGraph.Sweep.{boxes_along, frames_before}
use Rattle.framehop_folded.proofs.flame_graph.boxes.boxes_of.Given as goal

abbrev pub invariant-loop-at : goal.invariant-loop-at
invariant-loop-at l = (l.left ≡ total_of (take l.at (map viewed l.stacks)))
    × (map boxed l.boxes.items ++ boxes_along l.left (frames_before (map viewed l.stacks) l.at) (drop l.at (map viewed l.stacks))
    ≡ root_of (map viewed l.stacks) ∷ boxes_along 0 [] (map viewed l.stacks))
