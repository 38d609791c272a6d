use Rattle.std.proofs.Common.{refl, arith}
use Rattle.framehop_perf_stacks.proofs.NumberedLemmas.{among-self, ready-none, known-among, drawn-among, same-among, made-among}
use Rattle.framehop_perf_stacks.proofs.processes.Processes.make_room.Goals as goal

pub invariant_of-self-then-is_none-clause-drawn : goal.invariant_of-self-then-is_none-clause-drawn
invariant_of-self-then-is_none-clause-drawn g c =
    let mine = c.take_latest-near.new.self in
    let known = known-among mine.by_pid mine.by_pid mine.ready c.new.result mine.latest (among-self mine.by_pid) (ready-none mine.ready c.new.result (λ number. rw c.new.ensures.empty refl)) in
    drawn-among mine.by_pid mine.by_pid mine.ready c.new.result mine.latest mine.latest known mine.generations mine.generations (omega arith) mine.drawn

pub invariant_of-self-then-is_none-clause-same : goal.invariant_of-self-then-is_none-clause-same
invariant_of-self-then-is_none-clause-same g c =
    let mine = c.take_latest-near.new.self in
    let known = known-among mine.by_pid mine.by_pid mine.ready c.new.result mine.latest (among-self mine.by_pid) (ready-none mine.ready c.new.result (λ number. rw c.new.ensures.empty refl)) in
    same-among mine.by_pid mine.by_pid mine.ready c.new.result mine.latest mine.latest known mine.same

pub invariant_of-self-then-is_none-clause-made : goal.invariant_of-self-then-is_none-clause-made
invariant_of-self-then-is_none-clause-made g c =
    let mine = c.take_latest-near.new.self in
    let known = known-among mine.by_pid mine.by_pid mine.ready c.new.result mine.latest (among-self mine.by_pid) (ready-none mine.ready c.new.result (λ number. rw c.new.ensures.empty refl)) in
    made-among mine.by_pid mine.by_pid mine.ready c.new.result mine.latest mine.latest known mine.made
