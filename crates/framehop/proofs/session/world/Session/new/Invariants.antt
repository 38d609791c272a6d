use Rattle.std.proofs.Common.{◌≡◌, replicate}
use Rattle.framehop_cache.specs.Cache.{empty_cache}
use Rattle.framehop.proofs.session.world.Session.new.Given as goal

abbrev pub invariant-loop-number : goal.invariant-loop-number
invariant-loop-number g l = l.caches.items ≡ replicate l._number empty_cache
