use Rattle.std.proofs.Common.{◌≡◌, take}
use Rattle.framehop_folded.specs.FlameGraph.Changes.{joined}
use Rattle.framehop_folded.proofs.flame_graph.changes.join.Given as goal

abbrev pub invariant-loop-at : goal.invariant-loop-at
invariant-loop-at l = l.changes.items ≡ take l.at (joined l.boxes l.before)
