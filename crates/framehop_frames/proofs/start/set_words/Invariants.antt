use Rattle.std.proofs.Common.{◌≡◌, ◌≤◌}
use Rattle.framehop_frames.specs.Start.{with_words}
use Rattle.framehop_frames.proofs.start.set_words.Given as goal

abbrev pub invariant-loop-left : goal.invariant-loop-left
invariant-loop-left l = record {
  within : l.left ≤ 29;
  same : with_words l.general l.left l.columns ≡ with_words l.general 29 l.initial.columns;
}

abbrev pub decreases-loop-left : goal.decreases-loop-left
decreases-loop-left l = l.left
