use Rattle.std.proofs.Common.{refl, sym, arith}
use Rattle.std.proofs.lemmas.Int.{ints}
use Rattle.framehop_analysis.proofs.Aarch64Prologue.{not-both}
use Rattle.framehop_analysis.proofs.Aarch64Ends.{end-return, end-branch, end-call}
use Rattle.framehop_analysis.proofs.aarch64.instruction_analysis.epilogue.is_end.Goals as goal
use Rattle.framehop_analysis.proofs.aarch64.instruction_analysis.epilogue.is_end.Goals.{else-is_b-via-then-is_b+else-moved-ne0, else-is_b-via-else-is_b}

pub returns-then-is_return : goal.returns-then-is_return
returns-then-is_return c =
    (λ t. end-return _ _ c.in-Some.word _ c.in-Some.ensures.value (sym c.if-is_return.ensures), λ e. refl)

pub returns-then-moved-ne0 : goal.returns-then-moved-ne0
returns-then-moved-ne0 c = (
  λ t. end-branch _ _ c.in-Some.word _ c.in-Some.ensures.value (sym c.if-is_b.ensures)
      (λ none. c.if-moved-ne0.true (omega (arith, ints))),
  λ e. refl,
)

pub returns : goal.returns
returns c = rw c.is_some.ensures (end-call _ _ c.in-Some.word _ c.auth_tail_call_len.result c.in-Some.ensures.value
    (λ is. not-both _ c.if-is_return.ensures is)
    (λ is apart. elim c.else-is_b.branch [
      | else-is_b-via-then-is_b+else-moved-ne0 w ↦ apart (let e = w.if-moved-ne0.false in omega (arith, ints))
      | else-is_b-via-else-is_b w ↦ not-both _ w.if-is_b.ensures is
    ]) c.auth_tail_call_len.ensures)
