use Rattle.std.proofs.Common.{◌≡◌, None, drop, map}
use Rattle.framehop_backtrace.specs.Backtrace.{frame_view}
use Rattle.framehop_frames.specs.Missing.{missing_over}
use Rattle.framehop_frames.specs.Walker.{row_limits}
use Rattle.framehop_frames.proofs.missing.missing_over.Given as goal

abbrev pub invariant-loop-caller : goal.invariant-loop-caller
invariant-loop-caller g l =
    let memory = g.M.WordMemory.memory l.memory in
    let rows = g.W.Rows.rows l.rows row_limits in
    missing_over l.convention memory rows l.register None (frame_view l.first) (map frame_view l.callers)
    ≡ missing_over l.convention memory rows l.register l.missing (frame_view l.frame) (map frame_view (drop l.caller-index l.callers))
