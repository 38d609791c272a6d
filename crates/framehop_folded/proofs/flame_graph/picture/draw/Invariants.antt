use Rattle.std.proofs.Common.{◌≡◌, ◌++◌, take}
use Rattle.std.specs.List.{flat_map}
use Rattle.std.specs.String.{string_bytes}
use Rattle.framehop_folded.specs.FlameGraph.Boxes.{boxed}
use Rattle.framehop_folded.specs.FlameGraph.Picture.{drawn, head_of}
use Rattle.framehop_folded.proofs.flame_graph.picture.draw.Given as goal

abbrev pub invariant-loop-frame : goal.invariant-loop-frame
invariant-loop-frame l = string_bytes l.out ≡ head_of l.drawing.title.now l.rows l.left_out ++ flat_map (λ frame. drawn l.drawing.layout l.total l.rows (boxed frame)) (take l.frame-index l.boxes)
