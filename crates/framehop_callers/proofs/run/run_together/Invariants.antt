use Rattle.std.proofs.Common.{◌≡◌, Bool}
use Rattle.framehop_callers.specs.Step.{Source}
use Rattle.framehop_callers.specs.Run.{MOST_STEPS, run_from}
use Rattle.framehop_callers.proofs.run.run_together.Given as goal

abbrev pub invariant-loop-left : goal.invariant-loop-left
invariant-loop-left g l =
    let source : Source = record { convention = g.M.RunMemory.convention l.memory; memory = g.M.WordMemory.memory l.memory; code = g.M.RunMemory.code l.memory; is_covered = g.M.RunMemory.covers l.memory } in
    (forward : Bool) → run_from source forward MOST_STEPS l.initial.state ≡ run_from source forward l.left l.state

abbrev pub decreases-loop-left : goal.decreases-loop-left
decreases-loop-left g l = l.left
