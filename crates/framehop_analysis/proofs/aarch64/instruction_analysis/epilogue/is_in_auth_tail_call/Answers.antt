use Rattle.std.proofs.Common.{arith, below_more}
use Rattle.framehop_analysis.proofs.Aarch64Prologue.{not-both}
use Rattle.framehop_analysis.specs.Laws.Aarch64.Calls.{call-word}
use Rattle.framehop_analysis.specs.Laws.Aarch64.Ends.{inside-short}
use Rattle.framehop_analysis.proofs.Aarch64Ends.{never}
use Rattle.framehop_analysis.proofs.aarch64.instruction_analysis.epilogue.is_in_auth_tail_call.Goals as goal
use Rattle.framehop_analysis.proofs.aarch64.instruction_analysis.epilogue.is_in_auth_tail_call.Goals.{
  else-is_word_of_auth_tail_call-via-then-is_word_of_auth_tail_call+else-is_in_auth_tail_call_after,
  else-is_word_of_auth_tail_call-via-else-is_word_of_auth_tail_call,
}

pub loop-before-preserved : goal.loop-before-preserved
loop-before-preserved c = below_more _ _ c.loop-before.invariant
    (λ i. elim c.else-is_word_of_auth_tail_call.branch [
      | else-is_word_of_auth_tail_call-via-then-is_word_of_auth_tail_call+else-is_in_auth_tail_call_after w ↦ never (w.if-is_in_auth_tail_call_after.ensures.1 i)
      | else-is_word_of_auth_tail_call-via-else-is_word_of_auth_tail_call w ↦
          not-both _ w.if-is_word_of_auth_tail_call.ensures (call-word _ _ _ c.in-Some.word i c.in-Some.ensures.value)
    ])

pub returns : goal.returns
returns c = (
  λ t. cc,
  λ i.
      let short = inside-short _ _ i.0 i.1 in absurd (c.loop-before.invariant i.0 (omega arith) i.1),
)
