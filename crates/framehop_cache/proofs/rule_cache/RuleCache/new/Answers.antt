use Rattle.std.proofs.Common.{refl}
use Rattle.std.proofs.lemmas.List.Elements.{All-replicate}
use Rattle.framehop_cache.specs.CacheSet.{IsSet}
use Rattle.framehop_cache.proofs.rule_cache.RuleCache.new.Goals as goal

pub invariant_of-result : goal.invariant_of-result
invariant_of-result g c =
    rw (c.in_ok-resize.ensures.items, c.new-sets.ensures.items, c.new-sets.ensures.len) (
      refl,
      All-replicate (IsSet g.R.UnwindRule.executable) 509 _ (record {
        filled = λ empty. refl;
        keys = tt;
        run = tt;
      }),
    )

pub returns : goal.returns
returns g c = rw (c.in_ok-resize.ensures.items, c.new-sets.ensures.items, c.new-sets.ensures.len, c.new.ensures) refl
