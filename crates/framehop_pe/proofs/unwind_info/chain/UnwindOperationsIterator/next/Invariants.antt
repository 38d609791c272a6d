use Rattle.std.proofs.Common.{◌≡◌}
use Rattle.framehop_pe.specs.Operations.{left_operations}
use Rattle.framehop_pe.proofs.unwind_info.chain.UnwindOperationsIterator.next.Given as goal

abbrev pub invariant-loop-code : goal.invariant-loop-code
invariant-loop-code g l = left_operations g.D.SectionBytes.contents l.self ≡ left_operations g.D.SectionBytes.contents l.initial.self

abbrev pub decreases-loop-code : goal.decreases-loop-code
decreases-loop-code g l = l.self.left
