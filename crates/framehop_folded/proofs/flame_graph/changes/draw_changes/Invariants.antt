use Rattle.std.proofs.Common.{◌≡◌, ◌++◌, take}
use Rattle.std.specs.List.{flat_map}
use Rattle.std.specs.String.{string_bytes}
use Rattle.framehop_folded.specs.FlameGraph.Changes.{change_drawn, viewed_change}
use Rattle.framehop_folded.specs.FlameGraph.Picture.{head_of}
use Rattle.framehop_folded.proofs.flame_graph.changes.draw_changes.Given as goal

abbrev pub invariant-loop-change : goal.invariant-loop-change
invariant-loop-change l = string_bytes l.out ≡ head_of l.drawing.title.now l.rows l.left_out
    ++ flat_map (λ change. change_drawn l.drawing.layout l.totals l.rows (viewed_change change)) (take l.change-index l.changes)
