use Rattle.std.proofs.Common.{ap, not, sym, ◌∙◌}
use Rattle.framehop_core.proofs.Callback.{Answering-so, Answering-then}
use Rattle.framehop_core.specs.Outcome.{answer_of, registers_after}
use Rattle.framehop_core.specs.CodeAddress.{location_of}
use Rattle.framehop.proofs.AnswerLemmas.{rule-outcome, computed-outcome, fallback-outcome}
use Rattle.framehop.proofs.SoundnessLemmas.{step-at}
use Rattle.framehop.proofs.unwinder_internal.UnwinderInternal.step_fresh.Goals as goal

pub returns-in-Rule-clause-answers : goal.returns-in-Rule-clause-answers
returns-in-Rule-clause-answers g c =
    let policy = g.P.AllocationPolicy.policy in
    let unwinding = g.A.Unwinding.unwinding policy in
    let first = not c.is_return_address-is_first_frame.result in
    let told = rw c.in-Rule.is at c.in_ok-rule.ensures.told in
    let same = rw c.in-Rule.is at c.in_ok-rule.ensures.written in
    Answering-then g.F.FnMut c.in_ok-rule.ensures.answers c.exec.ensures.answers (λ memory before ran.
    let stepped =
    ap (λ outcome. outcome c.in-Rule.rule first c.args.regs.now memory) (sym (g.met.A.Unwinding.outcome_is policy))
    ∙ sym (rule-outcome unwinding _ c.in-Rule.rule first c.args.regs.now memory told)
    ∙ step-at unwinding c.args.self.now.modules (location_of c.args.address) _ _ c.args.regs.now memory c.address_for_lookup.ensures (ap not c.is_return_address-is_first_frame.ensures) in
    λ some. ((rw same at ran.0) ∙ ap answer_of stepped, (rw same at ran.1) ∙ ap (registers_after c.args.regs.now) stepped))

pub returns-in-Computed-clause-answers : goal.returns-in-Computed-clause-answers
returns-in-Computed-clause-answers g c =
    let policy = g.P.AllocationPolicy.policy in
    let unwinding = g.A.Unwinding.unwinding policy in
    let first = not c.is_return_address-is_first_frame.result in
    let told = rw c.in-Computed.is at c.in_ok-rule.ensures.told in
    Answering-so g.F.FnMut c.in_ok-rule.ensures.answers (λ memory before.
    let stepped =
    sym (computed-outcome unwinding _ first c.args.regs.now c.unwind_by_modules.new.regs memory c.in-Computed.return_address told (rw c.in-Computed.is at before))
    ∙ step-at unwinding c.args.self.now.modules (location_of c.args.address) _ _ c.args.regs.now memory c.address_for_lookup.ensures (ap not c.is_return_address-is_first_frame.ensures) in
    λ some. (ap answer_of stepped, ap (registers_after c.args.regs.now) stepped))

pub returns-in-Fallback-clause-answers : goal.returns-in-Fallback-clause-answers
returns-in-Fallback-clause-answers g c =
    let policy = g.P.AllocationPolicy.policy in
    let unwinding = g.A.Unwinding.unwinding policy in
    let fallback = g.A.UnwindRule.UnwindRule.fallback in
    let first = not c.is_return_address-is_first_frame.result in
    Answering-then g.F.FnMut c.in_ok-rule.ensures.answers (rw c.fallback_rule.ensures at c.exec-in-Fallback.ensures.answers) (λ memory before ran.
    let by = fallback-outcome unwinding fallback _ _ _ first c.args.regs.now c.unwind_by_modules.new.regs memory (g.met.A.Unwinding.fallback_is policy) c.in-Fallback.is c.in_ok-rule.ensures.told c.in_ok-rule.ensures.written before in
    let stepped =
    ap (λ outcome. outcome fallback first c.args.regs.now memory) (sym (g.met.A.Unwinding.outcome_is policy))
    ∙ sym by.1
    ∙ step-at unwinding c.args.self.now.modules (location_of c.args.address) _ _ c.args.regs.now memory c.address_for_lookup.ensures (ap not c.is_return_address-is_first_frame.ensures) in
    λ some. ((rw by.0 at ran.0) ∙ ap answer_of stepped, (rw by.0 at ran.1) ∙ ap (registers_after c.args.regs.now) stepped))
