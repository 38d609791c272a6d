use Rattle.std.proofs.Common.{◌≡◌, ◌≤◌, length}
use Rattle.std.specs.Prelude.{drop}
use Rattle.framehop_callers.specs.Caller.{HasColumns}
use Rattle.framehop_callers.specs.Rules.{Source}
use Rattle.framehop_callers.proofs.Named.{named_by}
use Rattle.framehop_callers.proofs.caller.caller_registers.Given as goal

abbrev pub invariant-loop-left : goal.invariant-loop-left
invariant-loop-left g l =
    let source : Source = record { bytes = l.section; words = l.regs; memory = g.M.WordMemory.memory l.memory } in
    record {
      within : l.left ≤ length l.rules;
      long : length l.caller ≡ 33;
      set : HasColumns (named_by l.convention source l.cfa (drop l.left l.rules)) l.caller;
    }

abbrev pub decreases-loop-left : goal.decreases-loop-left
decreases-loop-left g l = l.left
