use Rattle.std.proofs.Common.{◌≡◌, ◌++◌, ◌∷◌, map}
use Rattle.std.specs.List.{flat_map}
use Rattle.framehop_frames.specs.Line.{frame_label}
use Rattle.framehop_frames.specs.Stack.{shown_frame}
use Rattle.framehop_frames.proofs.line.push_frames.Given as goal

abbrev pub invariant-loop-frame : goal.invariant-loop-frame
invariant-loop-frame g l = l.line.items
    ≡ l.initial.line.items ++ flat_map (λ frame. 59 ∷ frame_label l.files l.mappings (shown_frame frame)) (map (λ frame. frame.now) l.yielded)
