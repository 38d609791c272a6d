use Rattle.std.proofs.Common.{ap, ◌∙◌, subst, IfOk}
use Rattle.framehop.specs.Answer.{Fresh, by_rule}
use Rattle.framehop.specs.Told.{TellsFresh, TellsFreshValues}
use Rattle.framehop_core.proofs.Callback.{Answering-so}
use Rattle.framehop.proofs.AnswerLemmas.{fresh-uncovered, given-fresh, may-take-memory, refused, tells, values}
use Rattle.framehop.proofs.unwinder_internal.UnwinderInternal.unwind_by_modules.Goals as goal

pub returns-in_default-clause-told : goal.returns-in_default-clause-told
returns-in_default-clause-told g c =
    let policy = g.P.AllocationPolicy.policy in
    fresh-uncovered (g.A.Unwinding.unwinding policy) c.args.self.now.modules c.args.lookup_address c.args.is_first_frame c.in_default.ensures
    ∙ ap by_rule (g.met.A.Unwinding.fallback_is policy)

pub returns-clause-refused : goal.returns-clause-refused
returns-clause-refused g c =
    let policy = g.P.AllocationPolicy.policy in
    refused g.A.UnwindRule.UnwindRule.fallback _ c.unwind_by_data.result c.frame_answer.result c.args.regs.now c.unwind_by_data.new.regs c.frame_answer.ensures c.unwind_by_data.ensures.written
    (λ out. may-take-memory (g.A.Unwinding.unwinding policy) _ policy (g.A.Unwinding.memory_is policy) c.args.self.now.modules c.args.lookup_address c.args.is_first_frame c.in-Some.module.now c.in-Some.relative_address c.in-Some.ensures.0 c.in-Some.ensures.1 (c.unwind_by_data.ensures.memory out))

pub returns-clause-told : goal.returns-clause-told
returns-clause-told g c =
    let policy = g.P.AllocationPolicy.policy in
    subst (λ (answer : Fresh g.row.A-UnwindRule.Denot g.row.A-UnwindRegs.Denot). IfOk c.frame_answer.result (TellsFresh g.A.UnwindRule.UnwindRule.fallback answer))
    (given-fresh (g.A.Unwinding.unwinding policy) _ policy g.A.UnwindRule.UnwindRule.fallback (g.A.Unwinding.answer_is policy) (g.met.A.Unwinding.fallback_is policy) c.args.self.now.modules c.args.lookup_address c.args.is_first_frame c.in-Some.module.now c.in-Some.relative_address c.in-Some.ensures.0 c.in-Some.ensures.1)
    (tells g.A.UnwindRule.UnwindRule.fallback _ c.unwind_by_data.result c.frame_answer.result c.frame_answer.ensures c.unwind_by_data.ensures.unwound.0)

pub returns-clause-answers : goal.returns-clause-answers
returns-clause-answers g c =
    let policy = g.P.AllocationPolicy.policy in
    Answering-so g.F.FnMut c.unwind_by_data.ensures.unwound.1 (λ memory ran.
    subst (λ (answer : Fresh g.row.A-UnwindRule.Denot g.row.A-UnwindRegs.Denot). IfOk c.frame_answer.result (λ made. TellsFreshValues answer c.args.regs.now memory made c.unwind_by_data.new.regs))
    (given-fresh (g.A.Unwinding.unwinding policy) _ policy g.A.UnwindRule.UnwindRule.fallback (g.A.Unwinding.answer_is policy) (g.met.A.Unwinding.fallback_is policy) c.args.self.now.modules c.args.lookup_address c.args.is_first_frame c.in-Some.module.now c.in-Some.relative_address c.in-Some.ensures.0 c.in-Some.ensures.1)
    (values g.A.UnwindRule.UnwindRule.fallback _ c.unwind_by_data.result c.frame_answer.result c.args.regs.now c.unwind_by_data.new.regs memory c.frame_answer.ensures c.unwind_by_data.ensures.unwound.0 ran))
