use Rattle.std.proofs.Common.{◌≡◌, ◌+◌, ◌≤◌, map, length}
use Rattle.std.specs.Vec.Iter.{into_iter_items, into_iter_len}
use Rattle.framehop.specs.CachedWorld.{CachedWorld, empty_cached_world}
use Rattle.framehop.specs.SessionView.{state_of, reply_view}
use Rattle.framehop.specs.Transparent.{IsTransparent}
use Rattle.framehop.proofs.RunLemmas.{Continues}
use Rattle.framehop.proofs.session.run.Given as goal

abbrev pub invariant-loop-command : goal.invariant-loop-command
invariant-loop-command g l =
    let state : CachedWorld g.row.A-UnwindRule.Denot = state_of l.session l.generations in
    IsTransparent (g.A.Unwinding.unwinding g.P.AllocationPolicy.policy) state
    × Continues (g.A.Unwinding.unwinding g.P.AllocationPolicy.policy) state (empty_cached_world l.cache_count l.fn.generations)
    (map reply_view l.replies.items) (into_iter_items l.command-iterator) l.fn.commands.items
    × (l.fn.generations ≤ l.generations)
    × (into_iter_len l.command-iterator ≡ length (into_iter_items l.command-iterator))
    × (l.generations + length (into_iter_items l.command-iterator) ≤ l.fn.generations + length l.fn.commands.items)
