use Rattle.std.proofs.Common.{◌≡◌, ℕ, List, map, take}
use Rattle.serde_json.specs.View.{view}
use Rattle.framehop_folded.specs.Speedscope.{AreFrames, sample_data, stack_view}
use Rattle.framehop_folded.proofs.speedscope.samples_of.Given as goal

abbrev pub invariant-loop-stack : goal.invariant-loop-stack
invariant-loop-stack l = (names : List (List ℕ)) → AreFrames names l.frames
    → map view l.samples.items ≡ map (λ stack. sample_data names stack.frames) (map stack_view (take l.stack-index l.stacks))
