use Rattle.std.proofs.Common.{sym}
use Rattle.framehop_analysis.specs.Laws.Aarch64.Calls.{call-by_b, call-by_braa}
use Rattle.framehop_analysis.proofs.aarch64.instruction_analysis.epilogue.auth_tail_call_len.Goals as goal

pub returns-then-is_b : goal.returns-then-is_b
returns-then-is_b c =
    let check = c.in_ok-tail_call.ensures in
    call-by_b _ _ _ _ check.0 check.1 c.in_ok-first.ensures.value (sym c.if-is_b.ensures)

pub returns-then-is_braa : goal.returns-then-is_braa
returns-then-is_braa c =
    let check = c.in_ok-tail_call.ensures in
    call-by_braa _ _ _ _ _ check.0 check.1 c.in_ok-first.ensures.value c.in_ok-second.ensures.value
    (sym c.if-is_mov.ensures) (sym c.if-is_braa.ensures)
