use Rattle.std.proofs.Common.{◌≡◌}
use Rattle.framehop_dwarf.specs.Evaluation.{Evaluation}
use Rattle.framehop_callers.specs.Evaluation.{value_from}
use Rattle.framehop_callers.proofs.evaluation.run.Given as goal

abbrev pub invariant-loop-at : goal.invariant-loop-at
invariant-loop-at g l =
    let e : Evaluation = record { code = l.code; columns = g.R.DwarfUnwindRegs.column l.regs; limit = g.V.ValueStack.limit } in
    let memory = g.M.WordMemory.memory l.memory in
    value_from e memory l.left (record { position = l.at; stack = g.V.ValueStack.values l.values }) ≡ value_from e memory 4096 (record { position = 0; stack = g.V.ValueStack.values l.initial.values })

abbrev pub decreases-loop-at : goal.decreases-loop-at
decreases-loop-at g l = l.left
