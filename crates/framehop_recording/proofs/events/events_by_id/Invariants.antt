use Rattle.std.proofs.Common.{◌≡◌, ◌≤◌, ℕ, map, drop, length}
use Rattle.std.specs.List.{position_from}
use Rattle.std.specs.Ordering.{nat_cmp}
use Rattle.std.specs.BTreeMap.{get}
use Rattle.framehop_recording.specs.Attributes.{attribute_view}
use Rattle.framehop_recording.specs.Events.{has_id}
use Rattle.framehop_recording.proofs.events.events_by_id.Given as goal

abbrev pub invariant-loop-event : goal.invariant-loop-event
invariant-loop-event l =
    (l.event ≤ length l.attributes)
    × ((id : ℕ) → get nat_cmp l.by_id id ≡ position_from (has_id id) l.event (map attribute_view (drop l.event l.attributes)))

abbrev pub decreases-loop-event : goal.decreases-loop-event
decreases-loop-event l = l.event
