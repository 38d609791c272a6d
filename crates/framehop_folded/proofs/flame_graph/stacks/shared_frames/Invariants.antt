use Rattle.std.proofs.Common.{◌≡◌, ◌+◌, drop}
use Rattle.std.specs.List.{common_prefix_len}
use Rattle.std.specs.Str.{bytes_eq}
use Rattle.framehop_folded.proofs.flame_graph.stacks.shared_frames.Given as goal

abbrev pub invariant-loop-at : goal.invariant-loop-at
invariant-loop-at l = common_prefix_len (λ x y. bytes_eq x.now y.now) l.before l.frames
    ≡ l.at + common_prefix_len (λ x y. bytes_eq x.now y.now) (drop l.at l.before) (drop l.at l.frames)
