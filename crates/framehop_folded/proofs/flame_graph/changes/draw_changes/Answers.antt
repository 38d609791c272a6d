use Rattle.std.proofs.Common.{arith}
use Rattle.std.proofs.lemmas.Grind.{common_steps}
use Rattle.std.proofs.lemmas.List.Folds.{flat_map-map}
use Rattle.framehop_folded.specs.FlameGraph.Changes.{change_drawn, viewed_change}
use Rattle.framehop_folded.proofs.flame_graph.changes.draw_changes.Goals as goal

pub returns : goal.returns
returns c =
    let boxes = flat_map-map (change_drawn c.args.drawing.layout c.args.totals c.deepest-rows.result) viewed_change c.args.changes.now in
    grind (arith, common_steps, boxes)
