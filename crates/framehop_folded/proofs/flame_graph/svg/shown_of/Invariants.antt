use Rattle.std.proofs.Common.{◌≡◌, ◌≤◌, ◌+◌, take, length, map}
use Rattle.std.specs.List.{All, filter}
use Rattle.framehop_folded.specs.FlameGraph.Boxes.{boxed}
use Rattle.framehop_folded.specs.FlameGraph.Numbers.{is_shown}
use Rattle.framehop_folded.proofs.flame_graph.svg.shown_of.Given as goal

abbrev pub invariant-loop-frame : goal.invariant-loop-frame
invariant-loop-frame l = (map boxed l.shown.items ≡ filter (is_shown l.total) (map boxed (take l.frame-index l.boxes)))
    × (length l.shown.items ≤ l.frame-index)
    × All (λ frame. frame.left + frame.count ≤ l.total) l.shown.items
