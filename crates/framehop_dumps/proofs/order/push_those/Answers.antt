use Rattle.std.proofs.Common.{◌<◌, length, map, ap, ◌++◌, ◌∙◌, arith}
use Rattle.std.specs.Prelude.{filter}
use Rattle.std.proofs.lemmas.List.{take_all}
use Rattle.framehop_dumps.specs.Dump.{thread_view, is_ended_by}
use Rattle.framehop_dumps.proofs.OrderLemmas.{filter-next}
use Rattle.framehop_dumps.proofs.order.push_those.Goals as goal

pub loop-thread-preserved : goal.loop-thread-preserved
loop-thread-preserved c =
    let l = c.loop-thread in
    let within : l.thread-index < length c.args.threads.now = omega arith in
    filter-next thread_view (is_ended_by c.args.ended) c.args.threads.now l.thread-index _ within _ _ _ l.invariant c.in_ok-push_if.ensures

pub returns : goal.returns
returns c =
    let l = c.loop-thread in
    let threads = c.args.threads.now in
    l.invariant
    ∙ ap (λ some. map thread_view c.args.ordered.now.items ++ filter (is_ended_by c.args.ended) (map thread_view some)) (take_all l.thread-index threads (omega arith))
