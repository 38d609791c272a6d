use Rattle.framehop_perf_stacks.proofs.ProblemLemmas.{AreLinesSoFar}
use Rattle.framehop_perf_stacks.proofs.problems.problems_text.Given as goal

abbrev pub invariant-loop-file : goal.invariant-loop-file
invariant-loop-file l = AreLinesSoFar l.files.list.items l.file-index l.text.items
