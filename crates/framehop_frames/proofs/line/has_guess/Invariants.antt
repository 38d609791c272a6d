use Rattle.std.proofs.Common.{◌≡◌, drop, map}
use Rattle.std.specs.List.{list_any}
use Rattle.framehop_frames.specs.Line.{is_guess}
use Rattle.framehop_frames.specs.Stack.{shown_frame}
use Rattle.framehop_frames.proofs.line.has_guess.Given as goal

abbrev pub invariant-loop-frame : goal.invariant-loop-frame
invariant-loop-frame g l =
    list_any is_guess (map shown_frame l.frames) ≡ list_any is_guess (map shown_frame (drop l.frame-index l.frames))
