use Rattle.std.proofs.lemmas.Bool.Decides.{when_true, when_false}
use Rattle.serde_json.specs.View.{view}
use Rattle.framehop_explain.specs.Found.{explaining_by}
use Rattle.framehop_explain_cli.proofs.SessionLemmas.{under-may-ok, under-other-ok}
use Rattle.framehop_explain_cli.proofs.program.notes_under.Goals as goal

pub returns-then-is_word : goal.returns-then-is_word
returns-then-is_word g c =
    under-may-ok g.A.Registers.reading (explaining_by g.A.Unwinding.readers g.A.Sources.pe_source (record { by_code = g.A.CompactUnwindInfoUnwinding.by_code; prologue = g.A.InstructionAnalysis.prologue_rule; epilogue = g.A.InstructionAnalysis.epilogue_rule }) g.A.UnwindRule.DescribeRule.rule_text g.A.UnwindRule.UnwindRule.fallback) g.A.Unwinding.unwinding (view c.args.value.now) c.notes_of.result
    (when_true _ _ c.if-is_word.true c.is_word.ensures) c.notes_of.ensures

pub returns : goal.returns
returns g c =
    under-other-ok g.A.Registers.reading (explaining_by g.A.Unwinding.readers g.A.Sources.pe_source (record { by_code = g.A.CompactUnwindInfoUnwinding.by_code; prologue = g.A.InstructionAnalysis.prologue_rule; epilogue = g.A.InstructionAnalysis.epilogue_rule }) g.A.UnwindRule.DescribeRule.rule_text g.A.UnwindRule.UnwindRule.fallback) g.A.Unwinding.unwinding (view c.args.value.now) c.notes_of-2.result
    (when_false _ _ c.if-is_word.false c.is_word.ensures) c.notes_of-2.ensures
