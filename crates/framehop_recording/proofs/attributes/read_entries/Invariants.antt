use Rattle.std.proofs.Common.{◌≡◌, map}
use Rattle.framehop_recording.specs.Bytes.{offsets, each_of}
use Rattle.framehop_recording.specs.Attributes.{attribute_at, attribute_view}
use Rattle.framehop_recording.proofs.EachLemmas.{prepended}
use Rattle.framehop_recording.proofs.attributes.read_entries.Given as goal

abbrev pub invariant-loop-left : goal.invariant-loop-left
invariant-loop-left l =
    each_of (λ at. attribute_at l.file at l.size) (offsets l.fn.start l.size l.fn.count)
    ≡ prepended (map attribute_view l.attributes.items) (each_of (λ at. attribute_at l.file at l.size) (offsets l.at l.size l.left))

abbrev pub decreases-loop-left : goal.decreases-loop-left
decreases-loop-left l = l.left
