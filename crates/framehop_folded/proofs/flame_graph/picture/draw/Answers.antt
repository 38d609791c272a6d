use Rattle.std.proofs.Common.{arith}
use Rattle.std.proofs.lemmas.Grind.{common_steps}
use Rattle.std.proofs.lemmas.List.Folds.{flat_map-map}
use Rattle.framehop_folded.specs.FlameGraph.Boxes.{boxed}
use Rattle.framehop_folded.specs.FlameGraph.Picture.{drawn}
use Rattle.framehop_folded.proofs.flame_graph.picture.draw.Goals as goal

pub returns : goal.returns
returns c =
    let boxes = flat_map-map (drawn c.args.drawing.layout c.args.total c.deepest-rows.result) boxed c.args.boxes.now in
    grind (arith, common_steps, boxes)
