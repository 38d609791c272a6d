use Rattle.std.proofs.Common.{arith}
use Rattle.std.proofs.lemmas.Grind.{common_steps}
use Rattle.framehop_perf_stacks.proofs.EndedLemmas.{within_total}
use Rattle.framehop_perf_stacks.proofs.counts.Counts.add_stack.Goals as goal

pub returns-in_err-add-clause-within : goal.returns-in_err-add-clause-within
returns-in_err-add-clause-within c = λ writes.
    let most = within_total c.args.self.now.stacks c.args.stack.items in
    grind (arith, common_steps, most)
