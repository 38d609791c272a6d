use Rattle.std.proofs.Common.{◌≡◌, map, take}
use Rattle.framehop_recording.specs.Attributes.{attribute_view}
use Rattle.framehop_recording.specs.Order.{timed}
use Rattle.framehop_recording.proofs.order.with_times.Given as goal

abbrev pub invariant-loop-index : goal.invariant-loop-index
invariant-loop-index l =
    l.list.items ≡ map (timed (map attribute_view l.events.attributes.items)) (take l.index l.records)
