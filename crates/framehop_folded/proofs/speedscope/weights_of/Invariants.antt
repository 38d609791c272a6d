use Rattle.std.proofs.Common.{◌≡◌, map, take}
use Rattle.serde_json.specs.View.{view}
use Rattle.framehop_folded.specs.Speedscope.{number_data, stack_view}
use Rattle.framehop_folded.proofs.speedscope.weights_of.Given as goal

abbrev pub invariant-loop-stack : goal.invariant-loop-stack
invariant-loop-stack l = map view l.weights.items ≡ map (λ stack. number_data stack.count) (map stack_view (take l.stack-index l.stacks))
