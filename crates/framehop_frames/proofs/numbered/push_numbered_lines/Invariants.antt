use Rattle.std.proofs.Common.{◌≡◌, ◌++◌, map, take}
use Rattle.framehop_frames.specs.Line.{frame_line}
use Rattle.framehop_frames.specs.Numbered.{numbered_from}
use Rattle.framehop_frames.specs.Stack.{shown_frame}
use Rattle.framehop_frames.proofs.numbered.push_numbered_lines.Given as goal

abbrev pub invariant-loop-number : goal.invariant-loop-number
invariant-loop-number g l = l.block.items
    ≡ l.initial.block.items ++ numbered_from 0 (frame_line l.files l.mappings) (map shown_frame (take l.number l.frames))
