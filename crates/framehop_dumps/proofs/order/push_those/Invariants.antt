use Rattle.std.proofs.Common.{◌≡◌, ◌++◌, map, take}
use Rattle.std.specs.Prelude.{filter}
use Rattle.framehop_dumps.specs.Dump.{thread_view, is_ended_by}
use Rattle.framehop_dumps.proofs.order.push_those.Given as goal

abbrev pub invariant-loop-thread : goal.invariant-loop-thread
invariant-loop-thread l =
    map thread_view l.ordered.items
    ≡ map thread_view l.initial.ordered.items ++ filter (is_ended_by l.ended) (map thread_view (take l.thread-index l.threads))
