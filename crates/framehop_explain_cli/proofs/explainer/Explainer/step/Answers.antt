use Rattle.std.proofs.Common.{◌<◌, ℕ, [], length, rules}
use Rattle.std.proofs.lemmas.List.{get_or_read}
use Rattle.std.specs.Global.{Global}
use Rattle.std.specs.declared.vec.Vec.{Vec}
use Rattle.framehop_explain.specs.Found.{explaining_by}
use Rattle.framehop_explain_cli.proofs.SessionLemmas.{step-noted}
use Rattle.framehop_explain_cli.proofs.explainer.Explainer.step.Goals as goal

pub returns : goal.returns
returns g c = λ fields. λ cache.
    let us = c.args.self.now.unwinders.items in
    let within : c.args.number < length us = search rules in
    let target = get_or_read us c.args.number _ within c.index-unwinder.ensures (record { modules = []; generation = 0 }) in
    step-noted (Vec ℕ Global) (explaining_by g.A.Unwinding.readers g.A.Sources.pe_source (record { by_code = g.A.CompactUnwindInfoUnwinding.by_code; prologue = g.A.InstructionAnalysis.prologue_rule; epilogue = g.A.InstructionAnalysis.epilogue_rule }) g.A.UnwindRule.DescribeRule.rule_text g.A.UnwindRule.UnwindRule.fallback g.P.AllocationPolicy.policy) (g.A.Unwinding.unwinding g.P.AllocationPolicy.policy) fields us c.args.self.now.generations c.args.number within _ target
    c.note_nothing-2.result cache c.args.address c.args.regs c.args.memory.now c.args.self.now.notes.items c.note_frame.new.notes.items c.note_nothing-2.new.notes.items c.in_ok-_caller.ensures.note c.note_nothing-2.ensures
