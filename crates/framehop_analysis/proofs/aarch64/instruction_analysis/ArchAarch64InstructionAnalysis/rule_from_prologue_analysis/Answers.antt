use Rattle.framehop_analysis.proofs.Aarch64Prologue.{at-split}
use Rattle.framehop_analysis.proofs.aarch64.instruction_analysis.ArchAarch64InstructionAnalysis.rule_from_prologue_analysis.Goals as goal

pub returns-clause-exact : goal.returns-clause-exact
returns-clause-exact c =
    at-split _ _ _ _ _ c.split_at.ensures.front c.split_at.ensures.back c.unwind_rule_from_detected_prologue.ensures.exact
