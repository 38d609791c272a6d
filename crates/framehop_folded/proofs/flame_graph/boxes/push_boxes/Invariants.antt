use Rattle.std.proofs.Common.{◌≡◌, ◌≤◌, ◌++◌, ◌-◌, length, map}
use Rattle.std.specs.List.{range_with_len}
use Rattle.framehop_folded.specs.FlameGraph.Boxes.{boxed}
use Rattle.framehop_folded.proofs.BoxLemmas.{box_at}
use Rattle.framehop_folded.proofs.flame_graph.boxes.push_boxes.Given as goal

abbrev pub invariant-loop-depth : goal.invariant-loop-depth
invariant-loop-depth l = (l.depth - l.here.shared ≤ length l.frames - l.here.shared) × (map boxed l.boxes.items ≡ map boxed l.initial.boxes.items
    ++ map (box_at l.left (map (λ frame. frame.now) l.frames) l.here l.later) (range_with_len l.here.shared (l.depth - l.here.shared)))
