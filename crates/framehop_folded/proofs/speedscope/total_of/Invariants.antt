use Rattle.std.proofs.Common.{◌≡◌, map, take}
use Rattle.std.specs.Prelude.{sum_by}
use Rattle.std.specs.Io.Iter.{u64_saturate}
use Rattle.framehop_folded.specs.Speedscope.{stack_view}
use Rattle.framehop_folded.proofs.speedscope.total_of.Given as goal

abbrev pub invariant-loop-stack : goal.invariant-loop-stack
invariant-loop-stack l = l.total ≡ u64_saturate (sum_by (λ stack. stack.count) (map stack_view (take l.stack-index l.stacks)))
