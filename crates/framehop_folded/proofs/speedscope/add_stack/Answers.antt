use Rattle.framehop_folded.proofs.SpeedscopeLemmas.{stack_added}
use Rattle.framehop_folded.proofs.speedscope.add_stack.Goals as goal

pub returns : goal.returns
returns c = λ stacks are.
    stack_added stacks c.args.stack c.args.by_thread.now c.remove-before.new.self c.insert.new.self c.remove-before.result c.new.result c.unwrap_or-stacks.result
    c.push.new.self are c.remove-before.ensures.value c.remove-before.ensures.updates c.new.ensures.items c.unwrap_or-stacks.ensures
    c.in_ok-push.ensures.items c.in_ok-insert.ensures.updates
