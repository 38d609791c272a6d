use Rattle.std.proofs.Common.{◌<◌, arith, length}
use Rattle.framehop_folded.proofs.ChangeLemmas.{taken-more, rest-more}
use Rattle.framehop_folded.proofs.flame_graph.stacks.take_before.Goals as goal

pub loop-stack-preserved : goal.loop-stack-preserved
loop-stack-preserved c =
    let xs = c.loop-stack.stacks in
    let ys = c.args.stacks.now in
    let i = c.loop-stack.stack-index in
    let below : i < length xs = omega arith in
    let within : i < length ys = omega arith in (
      taken-more xs ys i c.stack-item.result below within c.loop-stack.invariant.0 c.loop-stack.invariant.1,
      rest-more xs ys i c.stack-item.result below within c.loop-stack.invariant.0 c.loop-stack.invariant.1,
    )
