use Rattle.std.proofs.Common.{◌≡◌, ◌≤◌, take, map}
use Rattle.std.specs.List.{All}
use Rattle.framehop_folded.specs.FlameGraph.Changes.{viewed_change, deepest_of}
use Rattle.framehop_folded.proofs.flame_graph.changes.deepest.Given as goal

abbrev pub invariant-loop-change : goal.invariant-loop-change
invariant-loop-change l = (l.rows ≡ deepest_of (map viewed_change (take l.change-index l.changes)))
    × All (λ change. change.frame.depth ≤ l.rows) (take l.change-index l.changes)
