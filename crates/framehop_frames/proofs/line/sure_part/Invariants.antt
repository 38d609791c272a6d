use Rattle.std.proofs.Common.{◌≡◌, ◌+◌, map, drop}
use Rattle.std.specs.List.{prefix_len}
use Rattle.framehop_frames.specs.Line.{is_sure}
use Rattle.framehop_frames.specs.Stack.{shown_frame}
use Rattle.framehop_frames.proofs.line.sure_part.Given as goal

abbrev pub invariant-loop-frame : goal.invariant-loop-frame
invariant-loop-frame g l = (l.count ≡ l.frame-index)
    × (prefix_len is_sure (map shown_frame l.frames) ≡ l.frame-index + prefix_len is_sure (map shown_frame (drop l.frame-index l.frames)))
