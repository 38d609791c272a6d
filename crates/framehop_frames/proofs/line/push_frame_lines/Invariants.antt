use Rattle.std.proofs.Common.{◌≡◌, ◌++◌, take}
use Rattle.std.specs.List.{flat_map}
use Rattle.framehop_frames.specs.Line.{frame_line}
use Rattle.framehop_frames.specs.Stack.{shown_frame}
use Rattle.framehop_frames.proofs.line.push_frame_lines.Given as goal

abbrev pub invariant-loop-frame : goal.invariant-loop-frame
invariant-loop-frame g l = l.block.items
    ≡ l.initial.block.items ++ flat_map (λ frame. frame_line l.files l.mappings (shown_frame frame)) (take l.frame-index l.frames)
