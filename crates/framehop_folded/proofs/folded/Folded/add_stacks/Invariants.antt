use Rattle.framehop_folded.proofs.AddedLemmas.{IsAddedSoFar}
use Rattle.framehop_folded.proofs.folded.Folded.add_stacks.Given as goal

abbrev pub invariant-loop-stack : goal.invariant-loop-stack
invariant-loop-stack l = IsAddedSoFar l.fn.self l.fn.other l.self l.stack-iterator
