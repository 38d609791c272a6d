use Rattle.std.proofs.Common.{◌≡◌, ◌++◌, false, map, drop}
use Rattle.framehop_dump_files.specs.Coredump.Thread.{thread_view as noted_view}
use Rattle.framehop_dumps.specs.CoreDump.{threads_by}
use Rattle.framehop_dumps.specs.Dump.{thread_view}
use Rattle.framehop_dumps.proofs.core_dump.threads_of.Given as goal

abbrev pub invariant-loop-thread : goal.invariant-loop-thread
invariant-loop-thread l =
    threads_by false (map noted_view l.noted)
    ≡ map thread_view l.threads.items ++ threads_by l.told (map noted_view (drop l.thread-index l.noted))
