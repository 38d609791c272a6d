use Rattle.std.proofs.Common.{◌≡◌, ◌-◌, map, length}
use Rattle.std.specs.Prelude.{option_map}
use Rattle.framehop.specs.Modules.{UnwinderView}
use Rattle.framehop.specs.Soundness.{AreApart}
use Rattle.framehop_backtrace.specs.Covers.{is_covered}
use Rattle.framehop_backtrace.specs.Backtrace.{frame_view, stack_of, callers_of, backtrace_of}
use Rattle.framehop_backtrace.specs.Kept.{AreFound, kept_rows}
use Rattle.framehop_backtrace.proofs.BacktraceLemmas.{joined}
use Rattle.framehop_backtrace.proofs.walk.backtrace.Given as goal

abbrev pub invariant-loop-caller : goal.invariant-loop-caller
invariant-loop-caller g l =
    let view = g.U.Unwinder.unwinder_view l.unwinder in
    let rows = g.W.Rows.rows l.rows g.S.UnwindContextStorage.limits in
    let stack =
    stack_of g.U.BacktraceUnwinder.machine (g.U.Unwinder.step l.unwinder) (g.U.BacktraceUnwinder.is_by_info l.unwinder)
    rows (is_covered (g.U.Unwinder.unwinder_view l.unwinder).modules) (g.M.WordMemory.memory l.memory) (g.M.CodeMemory.code l.memory) in
    ((other : UnwinderView) → AreApart view other → g.U.Unwinder.is_sound other l.fn.cache → g.U.Unwinder.is_sound other l.cache)
    × (g.U.Unwinder.is_sound view l.fn.cache →
    joined (map frame_view l.frames.items) (callers_of stack (l.limit - l._caller) (option_map frame_view l.callee) (frame_view l.frame))
    ≡ backtrace_of stack l.limit (frame_view l.initial.frame))
    × (length l.found ≡ kept_rows) × AreFound rows l.found l.room
