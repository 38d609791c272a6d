use Rattle.std.proofs.Common.{rules}
use Rattle.std.proofs.lemmas.Iterator.Adapters.{YieldsList-from_rev_slice}
use Rattle.std.proofs.lemmas.Iterator.Consumers.{YieldsList-end}
use Rattle.framehop_perf_stacks.proofs.kernel.KernelNames.push_labels.Goals as goal

pub returns : goal.returns
returns c =
    let frames = YieldsList-from_rev_slice c.args.frames.now (search rules) in
    let yielded = YieldsList-end frames c.loop-frame.yielded c.loop-frame.frame-iterator c.loop-frame.yielded_by c.next.result c.next.new.self c.in-None.is c.next.ensures.steps in
    rw yielded.0 at c.loop-frame.invariant
