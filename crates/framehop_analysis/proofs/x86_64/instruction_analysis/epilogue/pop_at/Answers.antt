use Rattle.std.proofs.Common.{Some, refl, sym, ap, ◌∙◌}
use Rattle.framehop_analysis.specs.X86_64.Epilogue.{alone, after_40, after_41}
use Rattle.framehop_analysis.proofs.x86_64.instruction_analysis.epilogue.pop_at.Goals as goal

pub returns-then-is_plain_pop-clause-exact : goal.returns-then-is_plain_pop-clause-exact
returns-then-is_plain_pop-clause-exact c =
    alone c.in_ok-first.first (sym c.in_ok-first.ensures.value) (sym c.if-is_plain_pop.ensures) refl refl

pub returns-then-is_plain_pop-2-clause-exact : goal.returns-then-is_plain_pop-2-clause-exact
returns-then-is_plain_pop-2-clause-exact c =
    after_40 c.in_ok-opcode.opcode (sym c.in_ok-first.ensures.value ∙ ap Some c.if-first-eq64.true)
    (sym c.in_ok-opcode.ensures.value) (sym c.if-is_plain_pop-2.ensures) refl refl

pub returns-then-is_pop_opcode-clause-exact : goal.returns-then-is_pop_opcode-clause-exact
returns-then-is_pop_opcode-clause-exact c =
    after_41 c.in_ok-opcode.opcode (sym c.in_ok-first.ensures.value ∙ ap Some c.if-first-eq65.true)
    (sym c.in_ok-opcode.ensures.value) (sym c.if-is_pop_opcode.ensures) refl refl
