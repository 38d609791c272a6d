use Rattle.std.proofs.Common.{◌≡◌, ℕ, ◌-◌, sym, subst, arith}
use Rattle.framehop_analysis.specs.X86_64.Prologue.{IsPushBefore}
use Rattle.framehop_analysis.specs.Laws.X86_64.Pushes.{push-with-prefix, push-alone, not-prefixed, no-byte}
use Rattle.framehop_analysis.proofs.x86_64.instruction_analysis.prologue.push_before.Goals as goal
use Rattle.framehop_analysis.proofs.x86_64.instruction_analysis.prologue.push_before.Goals.{in_default-via-in-Some+else-is_prefix, in_default-via-in_default}

pub returns-then-end-eq1 : goal.returns-then-end-eq1
returns-then-end-eq1 c =
    let first : c.args.end - 1 ≡ 0 = omega arith in
    let P : ℕ → Type 0 = IsPushBefore c.args.text_bytes.now c.args.end in
    subst P first (push-alone _ _ c.in_ok-opcode.opcode (omega arith) c.in_ok-opcode.ensures.value (sym c.if-not-is_push.ensures)
    (λ p. let above = p.1 in omega arith))

pub returns-in-Some : goal.returns-in-Some
returns-in-Some c =
    push-with-prefix _ _ c.in-Some.prefix c.in_ok-opcode.opcode (omega arith) c.in-Some.ensures.value (sym c.if-is_prefix.ensures)
    c.in_ok-opcode.ensures.value (sym c.if-not-is_push.ensures)

pub returns-in_default : goal.returns-in_default
returns-in_default c =
    push-alone _ _ c.in_ok-opcode.opcode (omega arith) c.in_ok-opcode.ensures.value (sym c.if-not-is_push.ensures)
    (elim c.in_default.branch [
      | in_default-via-in-Some+else-is_prefix w ↦ not-prefixed _ _ w.in-Some.prefix w.in-Some.ensures.value w.if-is_prefix.ensures
      | in_default-via-in_default w ↦ no-byte _ _ w.in_default.ensures.value
    ])
