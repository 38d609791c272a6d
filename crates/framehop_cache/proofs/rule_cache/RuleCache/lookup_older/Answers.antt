use Rattle.std.proofs.Common.{arith}
use Rattle.std.proofs.lemmas.Grind.{common_steps}
use Rattle.framehop_cache.proofs.SetLemmas.{missed, set_at}
use Rattle.framehop_cache.proofs.rule_cache.RuleCache.lookup_older.Goals as goal
use Rattle.framehop_cache.proofs.rule_cache.RuleCache.lookup_older.Goals.{then-not-is_full, else-not-is_full+then-has_generation, else-not-is_full+else-has_generation}

pub returns-clause-stats : goal.returns-clause-stats
returns-clause-stats g c = elim c.if-not-is_full.branch [
  | then-not-is_full w ↦ grind (arith, common_steps, missed, set_at)
  | else-not-is_full+then-has_generation w ↦ grind (arith, common_steps, missed, set_at)
  | else-not-is_full+else-has_generation w ↦ grind (arith, common_steps, missed, set_at)
]
