use Rattle.std.proofs.Common.{◌∙◌, None, ap, sym}
use Rattle.framehop_backtrace.specs.Covers.{is_covered}
use Rattle.framehop_backtrace.specs.Backtrace.{frame_view, stack_of}
use Rattle.framehop_backtrace.specs.Rows.{finding_of}
use Rattle.framehop_backtrace.proofs.NextLemmas.{at-signal, at-finding}
use Rattle.framehop_backtrace.proofs.next.next_frame.Goals as goal

pub returns-then-is_in_trampoline-clause-exact : goal.returns-then-is_in_trampoline-clause-exact
returns-then-is_in_trampoline-clause-exact g c = λ sound.
    let stack =
    stack_of g.U.BacktraceUnwinder.machine (g.U.Unwinder.step c.args.unwinder.now)
    (g.U.BacktraceUnwinder.is_by_info c.args.unwinder.now) (g.W.Rows.rows c.args.rows.now g.S.UnwindContextStorage.limits)
    (is_covered (g.U.Unwinder.unwinder_view c.args.unwinder.now).modules) (g.M.WordMemory.memory c.args.memory.now) (g.M.CodeMemory.code c.args.memory.now) in
    c.by_signal.ensures.moved ∙ sym (at-signal stack None (frame_view c.args.frame.now) (sym c.is_in_trampoline.ensures ∙ c.if-is_in_trampoline.true))

pub returns-clause-exact : goal.returns-clause-exact
returns-clause-exact g c = λ sound.
    let rows = g.W.Rows.rows c.args.rows.now g.S.UnwindContextStorage.limits in
    let stack =
    stack_of g.U.BacktraceUnwinder.machine (g.U.Unwinder.step c.args.unwinder.now)
    (g.U.BacktraceUnwinder.is_by_info c.args.unwinder.now) rows (is_covered (g.U.Unwinder.unwinder_view c.args.unwinder.now).modules)
    (g.M.WordMemory.memory c.args.memory.now) (g.M.CodeMemory.code c.args.memory.now) in
    rw (at-finding stack None (frame_view c.args.frame.now) (finding_of c.in_ok-finding.finding c.row-row.result.now)
    (sym c.is_in_trampoline.ensures ∙ c.if-is_in_trampoline.false)
    (ap (finding_of c.in_ok-finding.finding) c.row-row.ensures ∙ c.in_ok-finding.ensures.found))
    (c.by_finding.ensures.exact rows sound)
