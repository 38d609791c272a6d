use Rattle.std.proofs.Common.{arith}
use Rattle.std.proofs.lemmas.Grind.{common_steps}
use Rattle.framehop_perf_stacks.proofs.EndedLemmas.{within_total}
use Rattle.framehop_perf_stacks.proofs.counts.Counts.add_sample.Goals as goal

pub returns-in_err-add-clause-within : goal.returns-in_err-add-clause-within
returns-in_err-add-clause-within c = λ writes frames samples counted.
    let h = c.in_err-add.ensures.refused in
    let k = c.from_residual-in_err-add.ensures in
    let most = within_total c.args.self.now.ends c.args.end.now in
    grind (arith, common_steps, most, counted.ends)
