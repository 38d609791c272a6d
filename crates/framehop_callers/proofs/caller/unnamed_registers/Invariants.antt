use Rattle.std.proofs.Common.{◌≡◌, ◌≤◌, ◌-◌, length}
use Rattle.framehop_callers.specs.RegisterFile.{word_of}
use Rattle.framehop_callers.specs.Rules.{by_convention}
use Rattle.framehop_callers.proofs.Columns.{HasBefore}
use Rattle.framehop_callers.proofs.caller.unnamed_registers.Given as goal

abbrev pub invariant-loop-column : goal.invariant-loop-column
invariant-loop-column l =
    record {
      within : l.column ≤ 33;
      long : length l.caller ≡ 33;
      set : HasBefore (λ k. by_convention l.convention k l.cfa (word_of l.regs (record { 0 = k }))) l.column l.caller;
    }

abbrev pub decreases-loop-column : goal.decreases-loop-column
decreases-loop-column l = 33 - l.column
