use Rattle.std.proofs.Common.{◌<◌, length, get_or, length-set, arith, ◌∙◌}
use Rattle.std.proofs.lemmas.List.Elements.{All-set}
use Rattle.framehop_cache.specs.CacheSet.{IsSet}
use Rattle.framehop_cache.proofs.rule_cache.RuleCache.insert.Goals as goal

pub insert-requires-clause-set : goal.insert-requires-clause-set
insert-requires-clause-set g c =
    let within : c.handle.inside.set < length c.self.inside.sets.items = rw (c.handle.invariant, c.self.invariant.0) (grind arith) in
    let stored : IsSet g.R.UnwindRule.executable (get_or c.self.inside.sets.items c.handle.inside.set c.index_mut.result.now) =
    c.self.invariant.1 c.handle.inside.set c.index_mut.result.now within in
    rw (← c.index_mut.ensures.value) at stored

pub invariant_of-self : goal.invariant_of-self
invariant_of-self g c = (
  length-set _ _ _ ∙ c.self.invariant.0,
  All-set (IsSet g.R.UnwindRule.executable) c.self.inside.sets.items c.handle.inside.set c.insert.new.self
      c.insert.ensures.set c.self.invariant.1,
)
