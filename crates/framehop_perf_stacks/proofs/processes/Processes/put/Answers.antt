use Rattle.std.proofs.Common.{arith}
use Rattle.framehop_perf_stacks.specs.declared.processes.MappedProcess.{MappedProcess}
use Rattle.framehop_perf_stacks.specs.declared.processes.Version.{Version}
use Rattle.framehop_perf_stacks.proofs.NumberedLemmas.{after-put, drawn-put, same-put, made-put, ready-put, earlier-later}
use Rattle.framehop_perf_stacks.proofs.processes.Processes.put.Goals as goal

pub invariant_of-self-2-clause-drawn : goal.invariant_of-self-2-clause-drawn
invariant_of-self-2-clause-drawn g c =
    let mine = c.args.self.now in
    let version : Version = record { number = c.in-Some.number; made_of = c.args.made_of } in
    let value : MappedProcess = record { version = version; mappings = c.args.mappings } in
    let put = after-put mine.by_pid c.insert.new.self c.args.pid value c.insert.result c.insert.ensures.updates c.insert.ensures.err in
    drawn-put mine.by_pid c.insert.new.self mine.ready mine.latest mine.generations version c.args.pid c.args.mappings c.in-Some.ensures.1 put
    c.requires mine.drawn c.next.new.self c.in-Some.ensures.2

pub invariant_of-self-2-clause-same : goal.invariant_of-self-2-clause-same
invariant_of-self-2-clause-same g c =
    let mine = c.args.self.now in
    let version : Version = record { number = c.in-Some.number; made_of = c.args.made_of } in
    let value : MappedProcess = record { version = version; mappings = c.args.mappings } in
    let put = after-put mine.by_pid c.insert.new.self c.args.pid value c.insert.result c.insert.ensures.updates c.insert.ensures.err in
    same-put mine.by_pid c.insert.new.self mine.ready mine.latest mine.generations version c.args.pid c.args.mappings c.in-Some.ensures.1 put
    c.requires mine.drawn mine.same

pub invariant_of-self-2-clause-made : goal.invariant_of-self-2-clause-made
invariant_of-self-2-clause-made g c =
    let mine = c.args.self.now in
    let version : Version = record { number = c.in-Some.number; made_of = c.args.made_of } in
    let value : MappedProcess = record { version = version; mappings = c.args.mappings } in
    let put = after-put mine.by_pid c.insert.new.self c.args.pid value c.insert.result c.insert.ensures.updates c.insert.ensures.err in
    made-put mine.by_pid c.insert.new.self mine.ready mine.latest mine.generations version c.args.pid c.args.mappings c.in-Some.ensures.1 put
    c.requires mine.drawn mine.made

pub invariant_of-self-2-clause-have_ready : goal.invariant_of-self-2-clause-have_ready
invariant_of-self-2-clause-have_ready g c =
    let mine = c.args.self.now in
    let version : Version = record { number = c.in-Some.number; made_of = c.args.made_of } in
    let value : MappedProcess = record { version = version; mappings = c.args.mappings } in
    let put = after-put mine.by_pid c.insert.new.self c.args.pid value c.insert.result c.insert.ensures.updates c.insert.ensures.err in
    ready-put mine.by_pid c.insert.new.self mine.ready mine.latest mine.generations version c.args.pid c.args.mappings c.in-Some.ensures.1 put
    c.requires mine.drawn mine.earlier mine.have_ready

pub invariant_of-self-2-clause-earlier : goal.invariant_of-self-2-clause-earlier
invariant_of-self-2-clause-earlier g c =
    let mine = c.args.self.now in
    let more = c.in-Some.ensures.2 in
    earlier-later mine.ready mine.generations c.next.new.self (omega (arith, more)) mine.earlier

pub invariant_of-self-clause-drawn : goal.invariant_of-self-clause-drawn
invariant_of-self-clause-drawn g c = λ version mappings told number known tells.
    let low = c.args.self.now.drawn version mappings told number known tells in
    let same = c.in_default.ensures.1 in
    omega (arith, low, same)

pub invariant_of-self-clause-earlier : goal.invariant_of-self-clause-earlier
invariant_of-self-clause-earlier g c =
    let mine = c.args.self.now in
    let same = c.in_default.ensures.1 in
    earlier-later mine.ready mine.generations c.next.new.self (omega (arith, same)) mine.earlier
