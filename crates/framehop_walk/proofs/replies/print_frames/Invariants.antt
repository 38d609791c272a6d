use Rattle.std.proofs.Common.{◌≡◌, ◌++◌, take, map, string_bytes}
use Rattle.framehop.specs.CodeAddress.{location_of}
use Rattle.framehop_walk.specs.Text.{frame_lines}
use Rattle.framehop_walk.proofs.replies.print_frames.Given as goal

abbrev pub invariant-loop-frame : goal.invariant-loop-frame
invariant-loop-frame l = string_bytes l.out ≡ string_bytes l.initial.out ++ frame_lines (map location_of (take l.frame-index l.frames.items))
