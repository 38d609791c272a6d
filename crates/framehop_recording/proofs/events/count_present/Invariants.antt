use Rattle.std.proofs.Common.{◌≡◌, ◌≤◌, take}
use Rattle.framehop_recording.specs.Events.{count_present}
use Rattle.framehop_recording.proofs.events.count_present.Given as goal

abbrev pub invariant-loop-field : goal.invariant-loop-field
invariant-loop-field l =
    (l.count ≡ count_present l.sample_type (take l.field-index l.fields)) × (l.count ≤ l.field-index)
