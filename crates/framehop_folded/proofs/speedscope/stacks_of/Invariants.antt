use Rattle.std.proofs.Common.{◌≡◌, ◌++◌, map}
use Rattle.framehop_folded.specs.Speedscope.{stack_view, stacks_of}
use Rattle.framehop_folded.proofs.speedscope.stacks_of.Given as goal

-- the stacks so far before those that are left are all
abbrev pub invariant-loop-stack : goal.invariant-loop-stack
invariant-loop-stack l = map stack_view l.stacks.items ++ stacks_of l.title l.by_thread l.stack-iterator
    ≡ stacks_of l.title l.by_thread l.folded.counts.entries
