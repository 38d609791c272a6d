use Rattle.std.proofs.Common.{sym}
use Rattle.framehop_analysis.specs.Laws.X86_64.Pops.{end-jump}
use Rattle.framehop_analysis.proofs.x86_64.instruction_analysis.epilogue.is_end.Goals as goal

pub returns-then-is_jump : goal.returns-then-is_jump
returns-then-is_jump c =
    end-jump _ _ _ _ c.in-Some.opcode _ c.in-Some.ensures.value c.if-opcode.false (sym c.if-is_jump.ensures) c.follows_pop.ensures
