use Rattle.std.proofs.Common.{◌≡◌, ◌≤◌, ◌+◌, take, length, map}
use Rattle.std.specs.List.{All, filter}
use Rattle.framehop_folded.specs.FlameGraph.Changes.{viewed_change, is_drawn}
use Rattle.framehop_folded.proofs.flame_graph.changes.shown_changes.Given as goal

abbrev pub invariant-loop-change : goal.invariant-loop-change
invariant-loop-change l = (map viewed_change l.shown.items ≡ filter (is_drawn l.totals) (map viewed_change (take l.change-index l.changes)))
    × (length l.shown.items ≤ l.change-index)
    × All (λ change. change.frame.left + change.frame.count ≤ l.totals.now) l.shown.items
    × All (λ change. change.before ≤ l.totals.before) l.shown.items
