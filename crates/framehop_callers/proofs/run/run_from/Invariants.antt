use Rattle.std.proofs.Common.{◌≡◌}
use Rattle.framehop_callers.specs.Step.{Source}
use Rattle.framehop_callers.specs.Run.{run_from}
use Rattle.framehop_callers.proofs.run.run_from.Given as goal

abbrev pub invariant-loop-left : goal.invariant-loop-left
invariant-loop-left g l =
    let source : Source = record { convention = g.M.RunMemory.convention l.memory; memory = g.M.WordMemory.memory l.memory; code = g.M.RunMemory.code l.memory; is_covered = g.M.RunMemory.covers l.memory } in
    run_from source l.forward l.left l.state ≡ run_from source l.forward l.most l.initial.state

abbrev pub decreases-loop-left : goal.decreases-loop-left
decreases-loop-left g l = l.left
