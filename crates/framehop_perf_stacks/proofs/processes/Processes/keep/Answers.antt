use Rattle.std.proofs.Common.{arith}
use Rattle.framehop_perf_stacks.proofs.NumberedLemmas.{after-put, none-after-put, ready-kept, known-kept, earlier-kept, drawn-among, same-among, made-among}
use Rattle.framehop_perf_stacks.proofs.processes.Processes.keep.Goals as goal

pub invariant_of-self-clause-drawn : goal.invariant_of-self-clause-drawn
invariant_of-self-clause-drawn g c =
    let mine = c.args.self.now in
    let ready = c.insert.new.self in
    let have = ready-kept mine.by_pid mine.ready ready mine.latest mine.generations c.args.pid c.args.version c.args.process c.requires
    (after-put mine.ready ready c.args.version.number c.args.process c.insert.result c.insert.ensures.updates c.insert.ensures.err)
    mine.same mine.have_ready in
    let known = known-kept mine.by_pid mine.ready ready mine.latest mine.generations c.args.pid c.args.version c.args.process c.requires have in
    drawn-among mine.by_pid mine.by_pid mine.ready ready mine.latest c.args.version known mine.generations mine.generations (omega arith) mine.drawn

pub invariant_of-self-clause-same : goal.invariant_of-self-clause-same
invariant_of-self-clause-same g c =
    let mine = c.args.self.now in
    let ready = c.insert.new.self in
    let have = ready-kept mine.by_pid mine.ready ready mine.latest mine.generations c.args.pid c.args.version c.args.process c.requires
    (after-put mine.ready ready c.args.version.number c.args.process c.insert.result c.insert.ensures.updates c.insert.ensures.err)
    mine.same mine.have_ready in
    let known = known-kept mine.by_pid mine.ready ready mine.latest mine.generations c.args.pid c.args.version c.args.process c.requires have in
    same-among mine.by_pid mine.by_pid mine.ready ready mine.latest c.args.version known mine.same

pub invariant_of-self-clause-made : goal.invariant_of-self-clause-made
invariant_of-self-clause-made g c =
    let mine = c.args.self.now in
    let ready = c.insert.new.self in
    let have = ready-kept mine.by_pid mine.ready ready mine.latest mine.generations c.args.pid c.args.version c.args.process c.requires
    (after-put mine.ready ready c.args.version.number c.args.process c.insert.result c.insert.ensures.updates c.insert.ensures.err)
    mine.same mine.have_ready in
    let known = known-kept mine.by_pid mine.ready ready mine.latest mine.generations c.args.pid c.args.version c.args.process c.requires have in
    made-among mine.by_pid mine.by_pid mine.ready ready mine.latest c.args.version known mine.made

pub invariant_of-self-clause-have_ready : goal.invariant_of-self-clause-have_ready
invariant_of-self-clause-have_ready g c =
    let mine = c.args.self.now in
    let ready = c.insert.new.self in
    ready-kept mine.by_pid mine.ready ready mine.latest mine.generations c.args.pid c.args.version c.args.process c.requires
    (after-put mine.ready ready c.args.version.number c.args.process c.insert.result c.insert.ensures.updates c.insert.ensures.err)
    mine.same mine.have_ready

pub invariant_of-self-clause-earlier : goal.invariant_of-self-clause-earlier
invariant_of-self-clause-earlier g c =
    let mine = c.args.self.now in
    earlier-kept mine.by_pid mine.ready c.insert.new.self mine.latest mine.generations c.args.pid c.args.version c.args.process c.requires
    (none-after-put mine.ready c.insert.new.self c.args.version.number c.args.process c.insert.result c.insert.ensures.updates c.insert.ensures.err)
    mine.drawn mine.earlier
