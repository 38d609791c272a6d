use Rattle.std.proofs.Common.{subst, sym}
use Rattle.framehop_cache.specs.Cache.{CacheView}
use Rattle.framehop.specs.Soundness.{IsSound}
use Rattle.framehop.proofs.SoundnessLemmas.{IsSound-empty}
use Rattle.framehop.proofs.cache.Cache.new.Goals as goal

pub returns-clause-sound : goal.returns-clause-sound
returns-clause-sound g c = λ unwinding unwinder.
    subst (λ (cache : CacheView g.row.R.Denot). IsSound unwinding unwinder cache.sets) (sym c.in_ok-new.ensures) (IsSound-empty unwinding unwinder)
