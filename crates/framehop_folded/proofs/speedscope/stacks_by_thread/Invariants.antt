use Rattle.std.proofs.Common.{map, take}
use Rattle.framehop_folded.specs.Speedscope.{AreByThread, stack_view}
use Rattle.framehop_folded.proofs.speedscope.stacks_by_thread.Given as goal

-- the stacks so far are those of their threads
abbrev pub invariant-loop-stack : goal.invariant-loop-stack
invariant-loop-stack l = AreByThread (map stack_view (take l.stack-index l.stacks)) l.by_thread
