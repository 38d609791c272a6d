use Rattle.std.proofs.Common.{◌≡◌}
use Rattle.framehop_core.specs.Memory.{Answering}
use Rattle.framehop_pe.specs.EpilogRun.{ran}
use Rattle.framehop_pe.specs.Instructions.{left_instructions}
use Rattle.framehop_pe.proofs.unwind_info.epilog.run_epilog.Given as goal

abbrev pub invariant-loop-instruction : goal.invariant-loop-instruction
invariant-loop-instruction g l =
    g.S.UnwindState.can_read l.state
    × (g.S.UnwindState.loan l.state ≡ g.S.UnwindState.loan l.initial.state)
    × Answering g.S.UnwindState.calls (g.S.UnwindState.callback l.initial.state) (g.S.UnwindState.callback l.state) (λ memory.
    ran memory l.frame_register (left_instructions l.instruction-iterator) (g.S.UnwindState.registers l.state)
    ≡ ran memory l.frame_register (left_instructions l.fn.instructions) (g.S.UnwindState.registers l.initial.state))
