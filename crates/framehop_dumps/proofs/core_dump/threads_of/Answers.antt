use Rattle.std.proofs.Common.{◌≡◌, ◌<◌, ◌++◌, [], length, map, drop, ap, sym, ◌∙◌, append-nil, arith}
use Rattle.std.proofs.lemmas.List.{at_drop_all}
use Rattle.framehop_dump_files.specs.Coredump.Thread.{thread_view as noted_view}
use Rattle.framehop_dumps.specs.CoreDump.{threads_by}
use Rattle.framehop_dumps.specs.Dump.{thread_view}
use Rattle.framehop_dumps.proofs.OrderLemmas.{thread-next}
use Rattle.framehop_dumps.proofs.core_dump.threads_of.Goals as goal

pub loop-thread-preserved : goal.loop-thread-preserved
loop-thread-preserved c =
    let l = c.loop-thread in
    let within : l.thread-index < length c.args.noted.now = omega arith in
    thread-next c.args.noted.now l.thread-index _ within l.told _ _ _ _ l.invariant c.in_ok-push_thread.ensures c.is_told-told.ensures

pub returns : goal.returns
returns c =
    let l = c.loop-thread in
    let none : map noted_view (drop l.thread-index c.args.noted.now) ≡ [] = at_drop_all (map noted_view) c.args.noted.now l.thread-index (omega arith) in
    sym (l.invariant ∙ ap (λ left. map thread_view l.threads.items ++ threads_by l.told left) none ∙ append-nil (map thread_view l.threads.items))
