use Rattle.std.proofs.Common.{◌≡◌, ◌<◌, ◌≤◌, ◌+◌, ℕ, List, [], Option, drop, length, get_or, subst}
use Rattle.std.specs.Global.{Global}
use Rattle.std.specs.declared.vec.Vec.{Vec}
use Rattle.serde_json.specs.View.{view, items_view}
use Rattle.framehop.specs.declared.session.commands.Command.{Command}
use Rattle.framehop_explain.specs.Found.{explaining_by}
use Rattle.framehop_walk.specs.Program.{read_next}
use Rattle.framehop_explain_cli.specs.SessionNotes.{Unwinders, IsAccepted, AreNotesOf}
use Rattle.framehop_explain_cli.proofs.SessionLemmas.{begun, next-noted, refused-noted, all-noted, items-more, items-end}
use Rattle.framehop_explain_cli.proofs.explainer.notes_of_commands.Goals as goal

pub loop-command-init : goal.loop-command-init
loop-command-init g c =
    begun g.A.Registers.reading (explaining_by g.A.Unwinding.readers g.A.Sources.pe_source (record { by_code = g.A.CompactUnwindInfoUnwinding.by_code; prologue = g.A.InstructionAnalysis.prologue_rule; epilogue = g.A.InstructionAnalysis.epilogue_rule }) g.A.UnwindRule.DescribeRule.rule_text g.A.UnwindRule.UnwindRule.fallback g.P.AllocationPolicy.policy) (g.A.Unwinding.unwinding g.P.AllocationPolicy.policy) (items_view c.args.commands.now.items) c.new-unwinders.result.items c.new-generations.result c.new-notes.result.items
    c.new-unwinders.ensures.items c.new-generations.ensures c.new-notes.ensures.items

pub loop-command-preserved : goal.loop-command-preserved
loop-command-preserved g c =
    let reading = g.A.Registers.reading in
    let explaining = (explaining_by g.A.Unwinding.readers g.A.Sources.pe_source (record { by_code = g.A.CompactUnwindInfoUnwinding.by_code; prologue = g.A.InstructionAnalysis.prologue_rule; epilogue = g.A.InstructionAnalysis.epilogue_rule }) g.A.UnwindRule.DescribeRule.rule_text g.A.UnwindRule.UnwindRule.fallback g.P.AllocationPolicy.policy) in
    let unwinding = (g.A.Unwinding.unwinding g.P.AllocationPolicy.policy) in
    let values = c.args.commands.now.items in
    let All : List (List ℕ) → Type 0 = λ notes. AreNotesOf reading explaining unwinding (items_view values) (record { unwinders = []; next = 0 }) notes in
    let within : c.loop-command.command-index < length values = rw c.deref-command-items.ensures.value at c.loop-command-test.true in
    let one : c.command-item.result ≡ get_or values c.loop-command.command-index c.command-item.result = rw c.deref-command-items.ensures.value at c.command-item.is in
    let more = items-more values c.loop-command.command-index c.command-item.result within one in
    let state : Unwinders = record { unwinders = c.loop-command.explainer.unwinders.items; next = c.loop-command.explainer.generations } in
    let P : Option (Command (Vec ℕ Global) g.row.A-UnwindRegs.Denot) → Type 0 = λ read. IsAccepted (read_next reading [] (view c.command-item.result)) read in
    next-noted reading explaining unwinding All (items_view (drop c.loop-command.command-index values)) (items_view (drop (c.loop-command.command-index + 1) values)) (view c.command-item.result)
    c.in-Some.accepted state (record { unwinders = c.carry_out.new.self.unwinders.items; next = c.carry_out.new.self.generations })
    c.loop-command.explainer.notes.items c.carry_out.new.self.notes.items more (subst P c.in-Some.is c.in_ok-read.ensures) c.in_ok-carry_out.ensures c.loop-command.invariant

pub returns-in_default : goal.returns-in_default
returns-in_default g c =
    let reading = g.A.Registers.reading in
    let explaining = (explaining_by g.A.Unwinding.readers g.A.Sources.pe_source (record { by_code = g.A.CompactUnwindInfoUnwinding.by_code; prologue = g.A.InstructionAnalysis.prologue_rule; epilogue = g.A.InstructionAnalysis.epilogue_rule }) g.A.UnwindRule.DescribeRule.rule_text g.A.UnwindRule.UnwindRule.fallback g.P.AllocationPolicy.policy) in
    let unwinding = (g.A.Unwinding.unwinding g.P.AllocationPolicy.policy) in
    let values = c.args.commands.now.items in
    let All : List (List ℕ) → Type 0 = λ notes. AreNotesOf reading explaining unwinding (items_view values) (record { unwinders = []; next = 0 }) notes in
    let within : c.loop-command.command-index < length values = rw c.deref-command-items.ensures.value at c.loop-command-test.true in
    let one : c.command-item.result ≡ get_or values c.loop-command.command-index c.command-item.result = rw c.deref-command-items.ensures.value at c.command-item.is in
    let more = items-more values c.loop-command.command-index c.command-item.result within one in
    let state : Unwinders = record { unwinders = c.loop-command.explainer.unwinders.items; next = c.loop-command.explainer.generations } in
    let P : Option (Command (Vec ℕ Global) g.row.A-UnwindRegs.Denot) → Type 0 = λ read. IsAccepted (read_next reading [] (view c.command-item.result)) read in
    refused-noted reading explaining unwinding All (items_view (drop c.loop-command.command-index values)) (items_view (drop (c.loop-command.command-index + 1) values)) (view c.command-item.result)
    state c.loop-command.explainer.notes.items more (subst P c.in_default.is c.in_ok-read.ensures) c.loop-command.invariant

pub returns : goal.returns
returns g c =
    let reading = g.A.Registers.reading in
    let explaining = (explaining_by g.A.Unwinding.readers g.A.Sources.pe_source (record { by_code = g.A.CompactUnwindInfoUnwinding.by_code; prologue = g.A.InstructionAnalysis.prologue_rule; epilogue = g.A.InstructionAnalysis.epilogue_rule }) g.A.UnwindRule.DescribeRule.rule_text g.A.UnwindRule.UnwindRule.fallback g.P.AllocationPolicy.policy) in
    let unwinding = (g.A.Unwinding.unwinding g.P.AllocationPolicy.policy) in
    let values = c.args.commands.now.items in
    let All : List (List ℕ) → Type 0 = λ notes. AreNotesOf reading explaining unwinding (items_view values) (record { unwinders = []; next = 0 }) notes in
    let past : length values ≤ c.loop-command.command-index = rw c.deref-command-items.ensures.value at c.loop-command-test.false in
    all-noted reading explaining unwinding All (items_view (drop c.loop-command.command-index values))
    (record { unwinders = c.loop-command.explainer.unwinders.items; next = c.loop-command.explainer.generations })
    c.loop-command.explainer.notes.items (items-end values c.loop-command.command-index past) c.loop-command.invariant
