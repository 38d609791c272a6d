use Rattle.std.proofs.Common.{◌≡◌, map, take}
use Rattle.framehop_backtrace.specs.Backtrace.{frame_view}
use Rattle.framehop_frames.specs.Notes.{noted_frame, noted_of}
use Rattle.framehop_frames.specs.Stack.{shown_frame, shown_of}
use Rattle.framehop_frames.proofs.walk.stack_frames.Given as goal

abbrev pub invariant-loop-frame : goal.invariant-loop-frame
invariant-loop-frame g l =
    let before = map frame_view (take l.frame-index l.found) in
    let code = g.M.CodeMemory.code l.memory in
    (map shown_frame l.frames.items ≡ map (shown_of code) before) × (map noted_frame l.frames.items ≡ map (noted_of code) before)
