use Rattle.std.proofs.Common.{map}
use Rattle.framehop_dumps.specs.ThreadNames.{named_view}
use Rattle.framehop_dumps.specs.Dump.{thread_view}
use Rattle.framehop_dumps.specs.Minidump.{thread_in}
use Rattle.framehop_dumps.proofs.EachLemmas.{IsSoFar}
use Rattle.framehop_dumps.proofs.minidump.threads_in.Given as goal

abbrev pub invariant-loop-thread : goal.invariant-loop-thread
invariant-loop-thread l =
    IsSoFar thread_view (thread_in l.file l.of_all.platform l.of_all.code_mask l.of_all.exception (map named_view l.names.listed.now)) l.listed l.thread-index l.threads.items
