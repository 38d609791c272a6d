use Rattle.std.proofs.Common.{ap, sym, ◌∙◌}
use Rattle.framehop_core.proofs.Callback.{Answering-then}
use Rattle.framehop_core.specs.Outcome.{answer_of, registers_after}
use Rattle.framehop.proofs.AnswerLemmas.{rule-outcome, failed-outcome}
use Rattle.framehop.proofs.unwinder_internal.UnwinderInternal.unwind_uncached.Goals as goal

pub returns-in-Rule-clause-answers : goal.returns-in-Rule-clause-answers
returns-in-Rule-clause-answers g c =
    let policy = g.P.AllocationPolicy.policy in
    let told = rw c.in-Rule.is at c.in_ok-rule.ensures.told in
    let same = rw c.in-Rule.is at c.in_ok-rule.ensures.written in
    Answering-then g.F.FnMut c.in_ok-rule.ensures.answers c.exec.ensures.answers (λ memory before ran.
    let stepped =
    ap (λ outcome. outcome c.in-Rule.rule c.args.is_first_frame c.args.regs.now memory) (sym (g.met.A.Unwinding.outcome_is policy))
    ∙ sym (rule-outcome (g.A.Unwinding.unwinding policy) _ c.in-Rule.rule c.args.is_first_frame c.args.regs.now memory told) in
    λ some. ((rw same at ran.0) ∙ ap answer_of stepped, (rw same at ran.1) ∙ ap (registers_after c.args.regs.now) stepped))

pub returns-in-Fallback-clause-answers : goal.returns-in-Fallback-clause-answers
returns-in-Fallback-clause-answers g c =
    let policy = g.P.AllocationPolicy.policy in
    let fallback = g.A.UnwindRule.UnwindRule.fallback in
    let told = rw c.in-Fallback.is at c.in_ok-rule.ensures.told in
    let same = rw c.in-Fallback.is at c.in_ok-rule.ensures.written in
    Answering-then g.F.FnMut c.in_ok-rule.ensures.answers (rw c.fallback_rule-fallback.ensures at c.exec-in-Fallback.ensures.answers) (λ memory before ran.
    let stepped =
    ap (λ outcome. outcome fallback c.args.is_first_frame c.args.regs.now memory) (sym (g.met.A.Unwinding.outcome_is policy))
    ∙ sym (rule-outcome (g.A.Unwinding.unwinding policy) _ fallback c.args.is_first_frame c.args.regs.now memory told) in
    λ some. ((rw same at ran.0) ∙ ap answer_of stepped, (rw same at ran.1) ∙ ap (registers_after c.args.regs.now) stepped))

pub returns-in-NotComputed-clause-answers : goal.returns-in-NotComputed-clause-answers
returns-in-NotComputed-clause-answers g c =
    let policy = g.P.AllocationPolicy.policy in
    let told = rw c.in-NotComputed.is at c.in_ok-rule.ensures.told in
    let same = rw c.in-NotComputed.is at c.in_ok-rule.ensures.written in
    Answering-then g.F.FnMut c.in_ok-rule.ensures.answers (rw c.fallback_rule.ensures at c.exec-in-NotComputed.ensures.answers) (λ memory before ran.
    let none = rw c.in-NotComputed.is at before in
    let stepped =
    ap (λ outcome. outcome g.A.UnwindRule.UnwindRule.fallback c.args.is_first_frame c.args.regs.now memory) (sym (g.met.A.Unwinding.outcome_is policy))
    ∙ ap (λ rule. (g.A.Unwinding.unwinding policy).outcome rule c.args.is_first_frame c.args.regs.now memory) (sym (g.met.A.Unwinding.fallback_is policy))
    ∙ sym (failed-outcome (g.A.Unwinding.unwinding policy) _ c.args.is_first_frame c.args.regs.now memory told none) in
    λ some. ((rw same at ran.0) ∙ ap answer_of stepped, (rw same at ran.1) ∙ ap (registers_after c.args.regs.now) stepped))
