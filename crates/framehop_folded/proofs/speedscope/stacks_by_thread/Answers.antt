use Rattle.std.proofs.Common.{map, rules, subst, sym, take}
use Rattle.framehop_folded.specs.Speedscope.{AreByThread, stack_view}
use Rattle.framehop_folded.proofs.SpeedscopeLemmas.{views-more}
use Rattle.framehop_folded.proofs.speedscope.stacks_by_thread.Goals as goal

pub loop-stack-preserved : goal.loop-stack-preserved
loop-stack-preserved c =
    subst (λ all. AreByThread all c.add_stack.new.by_thread)
    (sym (views-more c.args.stacks.now c.loop-stack.stack-index _ (search rules)))
    (c.in_ok-add_stack.ensures (map stack_view (take c.loop-stack.stack-index c.args.stacks.now)) c.loop-stack.invariant)
