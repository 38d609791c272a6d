use Rattle.std.proofs.Common.{◌≡◌, map, drop, nat_le}
use Rattle.framehop_recording.specs.Attributes.{attribute_view}
use Rattle.framehop_recording.specs.Events.{ids_size}
use Rattle.framehop_recording.proofs.events.have_room.Given as goal

abbrev pub invariant-loop-attribute : goal.invariant-loop-attribute
invariant-loop-attribute l =
    nat_le (ids_size (map attribute_view l.attributes)) l.fn.size
    ≡ nat_le (ids_size (map attribute_view (drop l.attribute-index l.attributes))) l.left
