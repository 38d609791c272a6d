use Rattle.std.proofs.Common.{◌≡◌, ◌≤◌}
use Rattle.framehop_callers.specs.State.{forgotten_below}
use Rattle.framehop_callers.proofs.state.forget_registers.Given as goal

abbrev pub invariant-loop-left : goal.invariant-loop-left
invariant-loop-left l = record {
  within : l.left ≤ 32;
  same : forgotten_below l.registers.0 l.left l.words ≡ forgotten_below l.registers.0 32 l.initial.words;
}

abbrev pub decreases-loop-left : goal.decreases-loop-left
decreases-loop-left l = l.left
