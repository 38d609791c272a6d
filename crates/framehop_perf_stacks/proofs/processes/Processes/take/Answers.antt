use Rattle.std.proofs.Common.{arith}
use Rattle.framehop_perf_stacks.proofs.NumberedLemmas.{known-fewer, have-fewer, earlier-fewer, drawn-among, same-among, made-among}
use Rattle.framehop_perf_stacks.proofs.processes.Processes.take.Goals as goal

pub invariant_of-self-2-clause-drawn : goal.invariant_of-self-2-clause-drawn
invariant_of-self-2-clause-drawn g c =
    let mine = c.args.self.now in
    let known = known-fewer mine.by_pid mine.ready c.remove.new.self mine.latest mine.generations c.in_ok-mapped.mapped.now.version.number c.remove.ensures.updates.0 in
    drawn-among mine.by_pid mine.by_pid mine.ready c.remove.new.self mine.latest mine.latest known mine.generations mine.generations (omega arith) mine.drawn

pub invariant_of-self-2-clause-same : goal.invariant_of-self-2-clause-same
invariant_of-self-2-clause-same g c =
    let mine = c.args.self.now in
    let known = known-fewer mine.by_pid mine.ready c.remove.new.self mine.latest mine.generations c.in_ok-mapped.mapped.now.version.number c.remove.ensures.updates.0 in
    same-among mine.by_pid mine.by_pid mine.ready c.remove.new.self mine.latest mine.latest known mine.same

pub invariant_of-self-2-clause-made : goal.invariant_of-self-2-clause-made
invariant_of-self-2-clause-made g c =
    let mine = c.args.self.now in
    let known = known-fewer mine.by_pid mine.ready c.remove.new.self mine.latest mine.generations c.in_ok-mapped.mapped.now.version.number c.remove.ensures.updates.0 in
    made-among mine.by_pid mine.by_pid mine.ready c.remove.new.self mine.latest mine.latest known mine.made

pub invariant_of-self-2-clause-have_ready : goal.invariant_of-self-2-clause-have_ready
invariant_of-self-2-clause-have_ready g c =
    let mine = c.args.self.now in
    have-fewer mine.by_pid mine.ready c.remove.new.self mine.latest mine.generations c.in_ok-mapped.mapped.now.version.number c.remove.ensures.updates.0 mine.have_ready

pub invariant_of-self-2-clause-earlier : goal.invariant_of-self-2-clause-earlier
invariant_of-self-2-clause-earlier g c =
    let mine = c.args.self.now in
    earlier-fewer mine.by_pid mine.ready c.remove.new.self mine.latest mine.generations c.in_ok-mapped.mapped.now.version.number c.remove.ensures.updates.0 mine.earlier
