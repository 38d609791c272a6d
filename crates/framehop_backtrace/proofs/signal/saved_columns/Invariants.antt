use Rattle.std.proofs.Common.{◌≡◌, ◌≤◌, ◌-◌, ◌+◌, ◌*◌, length, Some}
use Rattle.framehop_bytes.specs.Bytes.{le8}
use Rattle.framehop_callers.proofs.Columns.{HasBefore}
use Rattle.framehop_backtrace.proofs.signal.saved_columns.Given as goal

abbrev pub invariant-loop-at : goal.invariant-loop-at
invariant-loop-at l = record {
  within : l.at ≤ 33;
  long : length l.columns ≡ 33;
  set : HasBefore (λ at. Some (le8 l.frame (312 + at * 8))) l.at l.columns;
}

abbrev pub decreases-loop-at : goal.decreases-loop-at
decreases-loop-at l = 33 - l.at
