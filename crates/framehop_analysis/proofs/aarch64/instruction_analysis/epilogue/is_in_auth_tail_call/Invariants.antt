use Rattle.std.proofs.Common.{ℕ, ◌<◌}
use Rattle.framehop_analysis.specs.Aarch64.Epilogue.{IsInsideCallAfter}
use Rattle.framehop_analysis.proofs.aarch64.instruction_analysis.epilogue.is_in_auth_tail_call.Given as goal

abbrev pub invariant-loop-before : goal.invariant-loop-before
invariant-loop-before l = (k : ℕ) → k < l.before → IsInsideCallAfter l.text_bytes l.pc_offset k → ⊥
