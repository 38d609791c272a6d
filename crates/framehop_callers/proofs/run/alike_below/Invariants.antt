use Rattle.std.proofs.Common.{◌≡◌, ◌≤◌}
use Rattle.framehop_callers.specs.RegisterFile.{unknown}
use Rattle.framehop_callers.specs.Run.{alike_below}
use Rattle.framehop_callers.proofs.run.alike_below.Given as goal

abbrev pub invariant-loop-columns : goal.invariant-loop-columns
invariant-loop-columns l = record {
  within : l.columns ≤ l.initial.columns;
  same : alike_below l.columns l.left l.right l.both ≡ alike_below l.initial.columns l.left l.right unknown;
}

abbrev pub decreases-loop-columns : goal.decreases-loop-columns
decreases-loop-columns l = l.columns
