use Rattle.std.proofs.Common.{ℕ, List, [], drop}
use Rattle.serde_json.specs.View.{items_view}
use Rattle.framehop_explain.specs.Found.{explaining_by}
use Rattle.framehop_explain_cli.specs.SessionNotes.{AreNotesOf}
use Rattle.framehop_explain_cli.proofs.SessionLemmas.{Left}
use Rattle.framehop_explain_cli.proofs.explainer.notes_of_commands.Given as goal

abbrev pub invariant-loop-command : goal.invariant-loop-command
invariant-loop-command g l =
    let reading = g.A.Registers.reading in
    let explaining = (explaining_by g.A.Unwinding.readers g.A.Sources.pe_source (record { by_code = g.A.CompactUnwindInfoUnwinding.by_code; prologue = g.A.InstructionAnalysis.prologue_rule; epilogue = g.A.InstructionAnalysis.epilogue_rule }) g.A.UnwindRule.DescribeRule.rule_text g.A.UnwindRule.UnwindRule.fallback g.P.AllocationPolicy.policy) in
    let unwinding = (g.A.Unwinding.unwinding g.P.AllocationPolicy.policy) in
    let values = l.commands.items in
    let All : List (List ℕ) → Type 0 = λ notes. AreNotesOf reading explaining unwinding (items_view values) (record { unwinders = []; next = 0 }) notes in
    Left reading explaining unwinding All (items_view (drop l.command-index values)) (record { unwinders = l.explainer.unwinders.items; next = l.explainer.generations }) l.explainer.notes.items
