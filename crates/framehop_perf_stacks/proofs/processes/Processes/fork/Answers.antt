use Rattle.std.proofs.Common.{arith}
use Rattle.framehop_perf_stacks.proofs.NumberedLemmas.{after-put, among-shared, known-among, drawn-among, same-among, made-among, ready-among, ready-self}
use Rattle.framehop_perf_stacks.proofs.processes.Processes.fork.Goals as goal

pub invariant_of-self-clause-drawn : goal.invariant_of-self-clause-drawn
invariant_of-self-clause-drawn g c =
    let mine = c.met.new.self in
    let put = after-put mine.by_pid c.insert.new.self c.args.pid c.in_ok-mapped.mapped c.insert.result c.insert.ensures.updates c.insert.ensures.err in
    let among = among-shared mine.by_pid c.insert.new.self c.args.pid c.args.parent c.in_ok-mapped.mapped c.in_ok-mapped.ensures.met put in
    let known = known-among mine.by_pid c.insert.new.self mine.ready mine.ready mine.latest among (ready-self mine.ready) in
    drawn-among mine.by_pid c.insert.new.self mine.ready mine.ready mine.latest mine.latest known mine.generations mine.generations (omega arith) mine.drawn

pub invariant_of-self-clause-same : goal.invariant_of-self-clause-same
invariant_of-self-clause-same g c =
    let mine = c.met.new.self in
    let put = after-put mine.by_pid c.insert.new.self c.args.pid c.in_ok-mapped.mapped c.insert.result c.insert.ensures.updates c.insert.ensures.err in
    let among = among-shared mine.by_pid c.insert.new.self c.args.pid c.args.parent c.in_ok-mapped.mapped c.in_ok-mapped.ensures.met put in
    let known = known-among mine.by_pid c.insert.new.self mine.ready mine.ready mine.latest among (ready-self mine.ready) in
    same-among mine.by_pid c.insert.new.self mine.ready mine.ready mine.latest mine.latest known mine.same

pub invariant_of-self-clause-made : goal.invariant_of-self-clause-made
invariant_of-self-clause-made g c =
    let mine = c.met.new.self in
    let put = after-put mine.by_pid c.insert.new.self c.args.pid c.in_ok-mapped.mapped c.insert.result c.insert.ensures.updates c.insert.ensures.err in
    let among = among-shared mine.by_pid c.insert.new.self c.args.pid c.args.parent c.in_ok-mapped.mapped c.in_ok-mapped.ensures.met put in
    let known = known-among mine.by_pid c.insert.new.self mine.ready mine.ready mine.latest among (ready-self mine.ready) in
    made-among mine.by_pid c.insert.new.self mine.ready mine.ready mine.latest mine.latest known mine.made

pub invariant_of-self-clause-have_ready : goal.invariant_of-self-clause-have_ready
invariant_of-self-clause-have_ready g c =
    let mine = c.met.new.self in
    let put = after-put mine.by_pid c.insert.new.self c.args.pid c.in_ok-mapped.mapped c.insert.result c.insert.ensures.updates c.insert.ensures.err in
    let among = among-shared mine.by_pid c.insert.new.self c.args.pid c.args.parent c.in_ok-mapped.mapped c.in_ok-mapped.ensures.met put in
    ready-among mine.by_pid c.insert.new.self mine.ready mine.ready among (ready-self mine.ready) mine.have_ready
