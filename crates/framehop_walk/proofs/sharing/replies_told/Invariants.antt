use Rattle.std.proofs.Common.{◌≡◌, ◌++◌, length, map}
use Rattle.std.specs.Vec.Iter.{into_iter_items, into_iter_len}
use Rattle.framehop.specs.SessionView.{reply_view}
use Rattle.framehop_walk.specs.Sharing.{tell}
use Rattle.framehop_walk.proofs.sharing.replies_told.Given as goal

abbrev pub invariant-loop-one : goal.invariant-loop-one
invariant-loop-one g l =
    (map reply_view l.all.items ++ tell (into_iter_items l.one-iterator) (map reply_view (into_iter_items l.left))
    ≡ tell l.fn.told.items (map reply_view l.fn.replies.items))
    × (into_iter_len l.one-iterator ≡ length (into_iter_items l.one-iterator))
