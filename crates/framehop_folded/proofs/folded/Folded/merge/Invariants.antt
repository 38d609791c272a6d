use Rattle.framehop_folded.proofs.MergeLemmas.{IsMergedSoFar}
use Rattle.framehop_folded.proofs.folded.Folded.merge.Given as goal

abbrev pub invariant-loop-stack : goal.invariant-loop-stack
invariant-loop-stack l = IsMergedSoFar l.fn.self l.fn.other l.self l.stack-iterator
