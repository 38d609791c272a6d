use Rattle.std.proofs.Common.{sym, ◌∙◌}
use Rattle.framehop_explain.proofs.CodeLemmas.{prologue-place, epilogue-place, some-of, none-of}
use Rattle.framehop_explain.proofs.compact.place_by_code.Goals as goal

pub returns-then-is_some : goal.returns-then-is_some
returns-then-is_some g c =
    let some = some-of c.rule_from_prologue_analysis.result (sym c.is_some.ensures ∙ c.if-is_some.true) in
    prologue-place (record { by_code = g.A.CompactUnwindInfoUnwinding.by_code; prologue = g.A.InstructionAnalysis.prologue_rule; epilogue = g.A.InstructionAnalysis.epilogue_rule }) c.args.function c.args.code.now c.args.offset _ _ _ c.rule_from_prologue_analysis.result
    (sym c.is_analysed.ensures ∙ c.if-not-is_analysed.false)
    (g.met.A.Sources.by_code_is c.args.function c.args.code.now c.args.offset)
    (g.met.A.InstructionAnalysis.analysed_only c.args.code.now c.args.offset)
    c.rule_from_prologue_analysis.ensures.exact some.0 some.1

pub returns-then-is_some-2 : goal.returns-then-is_some-2
returns-then-is_some-2 g c =
    let none = none-of c.rule_from_prologue_analysis.result (sym c.is_some.ensures ∙ c.if-is_some.false) in
    let some = some-of c.rule_from_epilogue_analysis.result (sym c.is_some-2.ensures ∙ c.if-is_some-2.true) in
    epilogue-place (record { by_code = g.A.CompactUnwindInfoUnwinding.by_code; prologue = g.A.InstructionAnalysis.prologue_rule; epilogue = g.A.InstructionAnalysis.epilogue_rule }) c.args.function c.args.code.now c.args.offset _ _ _ c.rule_from_prologue_analysis.result c.rule_from_epilogue_analysis.result
    (sym c.is_analysed.ensures ∙ c.if-not-is_analysed.false)
    (g.met.A.Sources.by_code_is c.args.function c.args.code.now c.args.offset)
    (g.met.A.InstructionAnalysis.analysed_only c.args.code.now c.args.offset)
    c.rule_from_prologue_analysis.ensures.exact none
    c.rule_from_epilogue_analysis.ensures.exact some.0 some.1
