use Rattle.std.proofs.Common.{◌≡◌, ℕ, length}
use Rattle.std.specs.Vec.Iter.{into_iter_items, into_iter_len}
use Rattle.framehop.specs.CachedWorld.{empty_cached_world}
use Rattle.framehop_walk.specs.Sharing.{plan_of, IsCounted, Continues}
use Rattle.framehop_walk.proofs.sharing.share_clones.Given as goal

abbrev pub invariant-loop-command : goal.invariant-loop-command
invariant-loop-command g l =
    IsCounted l.sharing.places.items l.sharing.counts.items
    × ((caches next : ℕ) → Continues (g.A.Unwinding.unwinding g.P.AllocationPolicy.policy) (empty_cached_world caches next) (plan_of l.sharing) (into_iter_items l.command-iterator) l.fn.commands.items)
    × (into_iter_len l.command-iterator ≡ length (into_iter_items l.command-iterator))
