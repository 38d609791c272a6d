use Rattle.std.proofs.Common.{None, refl, rules}
use Rattle.framehop_core.proofs.Callback.{AnswersAs-unchanged, Answering-over}
use Rattle.framehop.specs.Policy.{with_allocation}
use Rattle.framehop_explain.proofs.FoundLemmas.{named, ok-from}
use Rattle.framehop_explain_cli.specs.FileText.{unreadable, IsToldOf}
use Rattle.framehop_explain_cli.proofs.file.told_by_module.Goals as goal

pub returns : goal.returns
returns g c =
    let answers = AnswersAs-unchanged _ unreadable _ (λ a r f' call. search rules) in
    ok-from c.explain_module.result c.explain_module.ensures.source (Answering-over _ c.explain_module.ensures.answers unreadable answers).1
    (λ found source told.
    named g.A.Unwinding.readers _ g.A.Sources.pe_source (record { by_code = g.A.CompactUnwindInfoUnwinding.by_code; prologue = g.A.InstructionAnalysis.prologue_rule; epilogue = g.A.InstructionAnalysis.epilogue_rule }) g.A.UnwindRule.DescribeRule.rule_text g.A.UnwindRule.UnwindRule.fallback with_allocation None None
    (λ e. IsToldOf g.A.RegisterNames.names e g.A.Machine.no_registers c.args.«module».now.unwind_data c.args.address found.0 found.1)
    g.met.A.Unwinding.readers_are refl refl
    (source, rw c.no_registers.ensures at told))
