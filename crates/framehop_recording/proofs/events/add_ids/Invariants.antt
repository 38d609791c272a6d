use Rattle.std.proofs.Common.{◌≡◌, ◌-◌, ◌/◌, ◌≤◌, ℕ, length, cond, Some, ◌==◌}
use Rattle.std.specs.List.{list_any}
use Rattle.std.specs.Ordering.{nat_cmp}
use Rattle.std.specs.BTreeMap.{get}
use Rattle.framehop_bytes.specs.Bytes.{le8}
use Rattle.framehop_recording.specs.Bytes.{offsets}
use Rattle.framehop_recording.proofs.events.add_ids.Given as goal

abbrev pub invariant-loop-id : goal.invariant-loop-id
invariant-loop-id l =
    (l.at ≤ length l.ids)
    × ((id : ℕ) → cond (list_any (λ at. le8 l.ids at == id) (offsets l.at 8 ((length l.ids - l.at) / 8))) (Some l.event) (get nat_cmp l.by_id id)
    ≡ cond (list_any (λ at. le8 l.ids at == id) (offsets 0 8 (length l.ids / 8))) (Some l.event) (get nat_cmp l.fn.by_id id))

abbrev pub decreases-loop-id : goal.decreases-loop-id
decreases-loop-id l = length l.ids - l.at
