use Rattle.std.proofs.Common.{◌≡◌, ◌≤◌, map, length}
use Rattle.framehop_recording.specs.EventNames.{event_names_from}
use Rattle.framehop_recording.proofs.EachLemmas.{prepended}
use Rattle.framehop_recording.proofs.event_names.read_names_from.Given as goal

abbrev pub invariant-loop-left : goal.invariant-loop-left
invariant-loop-left l =
    (event_names_from l.bytes l.size l.short l.fn.start l.fn.count
    ≡ prepended (map (λ name. name.now) l.names.items) (event_names_from l.bytes l.size l.short l.at l.left))
    × (l.at ≤ length l.bytes)

abbrev pub decreases-loop-left : goal.decreases-loop-left
decreases-loop-left l = l.left
