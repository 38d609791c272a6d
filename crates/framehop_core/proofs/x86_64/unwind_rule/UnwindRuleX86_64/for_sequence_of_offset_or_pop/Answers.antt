use Rattle.std.proofs.Common.{arith}
use Rattle.framehop_core.specs.Laws.Orderings.{IsArrangement-number}
use Rattle.framehop_core.proofs.x86_64.unwind_rule.UnwindRuleX86_64.for_sequence_of_offset_or_pop.Goals as goal

pub returns-in_err-sp_offset_by_8-clause-rule : goal.returns-in_err-sp_offset_by_8-clause-rule
returns-in_err-sp_offset_by_8-clause-rule g c = λ given yields.
    rw c.from_residual.ensures (λ x registers e arrangement. let more = c.in_err-sp_offset_by_8.ensures.given given yields x registers e in omega (arith, (IsArrangement-number registers arrangement).2))
