use Rattle.framehop_dumps.specs.Dump.{dump_view}
use Rattle.framehop_dump_stacks.specs.Modules.{AreFilesAsked}
use Rattle.framehop_dump_stacks.proofs.program.walk_threads.Given as goal

abbrev pub invariant-loop-round : goal.invariant-loop-round
invariant-loop-round g l = AreFilesAsked (g.S.FileSource.source l.source) (dump_view l.dump) l.files
