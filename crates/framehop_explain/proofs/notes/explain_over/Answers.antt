use Rattle.std.proofs.Common.{option_map, rules}
use Rattle.framehop_core.specs.CodeAddress.{location_of}
use Rattle.framehop_core.proofs.Callback.{AnswersAs-unchanged, Answering-over}
use Rattle.framehop_explain.specs.Found.{Explaining, IsFinding, finding_of}
use Rattle.framehop_explain.proofs.FoundLemmas.{found-by, named, ok-from}
use Rattle.framehop_explain.proofs.notes.explain_over.Goals as goal

pub returns-clause-found : goal.returns-clause-found
returns-clause-found g c =
    let memory = g.M.Words.memory c.args.memory.now in
    let answers = AnswersAs-unchanged _ memory _ (λ a r f' call. search rules) in
    let explaining : Explaining g.row.A-UnwindRule.Denot g.row.A-UnwindRegs.Denot = record {
      places = record {
        pe = g.A.Sources.pe_source;
        code = record { by_code = g.A.CompactUnwindInfoUnwinding.by_code; prologue = g.A.InstructionAnalysis.prologue_rule; epilogue = g.A.InstructionAnalysis.epilogue_rule };
        compact = g.A.Unwinding.readers.compact;
      };
      values = λ read first old. record {
        translated = g.A.DwarfUnwinding.translated;
        uncovered = g.A.DwarfUnwinding.uncovered;
        direct = λ bytes row. g.A.DwarfUnwinding.direct bytes g.P.GimliEvaluationStorage.Stack.ValueStack.limit read row first old;
        found = g.A.PeUnwinding.found;
        computed = λ sections relative frame. g.A.PeUnwinding.computed sections relative frame read old;
        compact = g.A.Unwinding.readers.compact;
      };
      limits = g.P.GimliUnwindContextStorage.UnwindContextStorage.limits;
      text = g.A.UnwindRule.DescribeRule.rule_text;
      fallback = g.A.UnwindRule.UnwindRule.fallback;
    } in
    let limits = g.met.P.AllocationPolicy.is_policy in
    ok-from c.explain_frame.result c.explain_frame.ensures.finding (Answering-over _ c.explain_frame.ensures.answers memory answers).1
    (λ explanation covers tells.
    named g.A.Unwinding.readers _ g.A.Sources.pe_source (record { by_code = g.A.CompactUnwindInfoUnwinding.by_code; prologue = g.A.InstructionAnalysis.prologue_rule; epilogue = g.A.InstructionAnalysis.epilogue_rule }) g.A.UnwindRule.DescribeRule.rule_text g.A.UnwindRule.UnwindRule.fallback g.P.AllocationPolicy.policy _ _
    (λ e. IsFinding e c.args.unwinder.now.modules memory (location_of c.args.address) c.args.regs (option_map finding_of explanation.finding))
    g.met.A.Unwinding.readers_are limits.1 limits.2
    (found-by explaining c.args.unwinder.now.modules memory (location_of c.args.address) c.args.regs finding_of explanation.finding covers tells))

pub returns-clause-outcome : goal.returns-clause-outcome
returns-clause-outcome g c =
    let memory = g.M.Words.memory c.args.memory.now in
    let answers = AnswersAs-unchanged _ memory _ (λ a r f' call. search rules) in
    c.explain_frame.ensures.outcome memory answers
