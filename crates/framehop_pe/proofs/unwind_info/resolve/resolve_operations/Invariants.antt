use Rattle.std.proofs.Common.{◌≡◌}
use Rattle.framehop_core.specs.Memory.{Answering}
use Rattle.framehop_pe.specs.Operations.{left_operations}
use Rattle.framehop_pe.specs.Resolve.{resolved}
use Rattle.framehop_pe.proofs.unwind_info.resolve.resolve_operations.Given as goal

abbrev pub invariant-loop-framed : goal.invariant-loop-framed
invariant-loop-framed g l =
    g.S.UnwindState.can_read l.state
    × (g.S.UnwindState.loan l.state ≡ g.S.UnwindState.loan l.initial.state)
    × Answering g.S.UnwindState.calls (g.S.UnwindState.callback l.initial.state) (g.S.UnwindState.callback l.state) (λ memory.
    resolved memory (left_operations g.D.SectionBytes.contents l.framed-iterator) (g.S.UnwindState.registers l.state)
    ≡ resolved memory (left_operations g.D.SectionBytes.contents l.fn.operations) (g.S.UnwindState.registers l.initial.state))
