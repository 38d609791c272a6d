use Rattle.std.proofs.Common.{arith}
use Rattle.framehop_perf_stacks.proofs.NumberedLemmas.{earlier-later}
use Rattle.framehop_perf_stacks.proofs.processes.Processes.mapped.Goals as goal

pub invariant_of-self-clause-drawn : goal.invariant_of-self-clause-drawn
invariant_of-self-clause-drawn g c = λ version mappings told number known tells.
    let low = c.args.self.now.drawn version mappings told number known tells in
    let more = c.mapped.ensures.never_back in
    omega (arith, low, more)

pub invariant_of-self-clause-earlier : goal.invariant_of-self-clause-earlier
invariant_of-self-clause-earlier g c =
    let mine = c.args.self.now in
    earlier-later mine.ready mine.generations c.mapped.new.generations c.mapped.ensures.never_back mine.earlier
