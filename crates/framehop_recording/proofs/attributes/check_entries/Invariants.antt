use Rattle.std.proofs.Common.{◌≡◌, Err}
use Rattle.std.specs.Result.{IsOk}
use Rattle.framehop_recording.specs.Bytes.{offsets, each_of}
use Rattle.framehop_recording.specs.Attributes.{attribute_at}
use Rattle.framehop_recording.specs.declared.error.RecordingError.{RecordingError}
use Rattle.framehop_recording.proofs.attributes.check_entries.Given as goal

abbrev pub invariant-loop-left : goal.invariant-loop-left
invariant-loop-left l =
    ((error : RecordingError) → each_of (λ at. attribute_at l.file at l.size) (offsets l.at l.size l.left) ≡ Err error
    → each_of (λ at. attribute_at l.file at l.size) (offsets l.fn.start l.size l.fn.count) ≡ Err error)
    × (IsOk (each_of (λ at. attribute_at l.file at l.size) (offsets l.at l.size l.left))
    → IsOk (each_of (λ at. attribute_at l.file at l.size) (offsets l.fn.start l.size l.fn.count)))

abbrev pub decreases-loop-left : goal.decreases-loop-left
decreases-loop-left l = l.left
