use Rattle.framehop_dumps.specs.Dump.{dump_view}
use Rattle.framehop_dump_stacks.proofs.ProblemLemmas.{AreToldUpTo}
use Rattle.framehop_dump_stacks.proofs.problems.problems_text.Given as goal

abbrev pub invariant-loop-file : goal.invariant-loop-file
invariant-loop-file l = AreToldUpTo (dump_view l.modules.dump.now) l.modules.files.now l.mappings l.modules.files.now.list.items l.file-index l.text.items
