use Rattle.std.proofs.Common.{◌≡◌, ◌≤◌, take, map}
use Rattle.std.specs.List.{All}
use Rattle.framehop_folded.specs.FlameGraph.Boxes.{boxed}
use Rattle.framehop_folded.specs.FlameGraph.Picture.{deepest}
use Rattle.framehop_folded.proofs.flame_graph.picture.deepest.Given as goal

abbrev pub invariant-loop-frame : goal.invariant-loop-frame
invariant-loop-frame l = (l.rows ≡ deepest (map boxed (take l.frame-index l.boxes))) × All (λ frame. frame.depth ≤ l.rows) (take l.frame-index l.boxes)
