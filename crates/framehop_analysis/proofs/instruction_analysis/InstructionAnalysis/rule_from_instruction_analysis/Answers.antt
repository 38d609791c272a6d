use Rattle.std.proofs.Common.{rules}
use Rattle.framehop_analysis.proofs.Answers.{first-exact, only-same}
use Rattle.framehop_analysis.proofs.instruction_analysis.InstructionAnalysis.rule_from_instruction_analysis.Goals as goal

pub returns-clause-exact : goal.returns-clause-exact
returns-clause-exact g c =
    first-exact _ _ c.rule_from_prologue_analysis.result c.or_else.result _ c.rule_from_prologue_analysis.ensures.exact
    c.or_else.ensures (λ other. search rules)

pub returns-clause-value : goal.returns-clause-value
returns-clause-value g c =
    only-same _ _ _ (returns-clause-exact g c) (g.met.Self.InstructionAnalysis.analysed_only c.args.text_bytes.now c.args.pc_offset)
