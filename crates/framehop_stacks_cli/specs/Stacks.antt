-- What becomes of folded stacks when those of a file are added, and with which status.
use Rattle.std.specs.Prelude.{ℕ, ◌≡◌, ◌⊎◌, ◌==◌, List, Option, Some, None, Result, Ok, Err, if◌then◌else◌}
use Rattle.framehop_folded.specs.Folded.{entry_of, together, IsTooLarge}
use Rattle.framehop_folded.specs.declared.folded.Folded.{Folded}
use Rattle.framehop_perf_stacks.specs.declared.error.StacksError.{StacksError}
use Rattle.framehop_perf_stacks.specs.declared.error.StacksError.TheVariants.{Recording}
use Rattle.framehop_perf_stacks.specs.declared.program.Unwound.{Unwound}
use Rattle.framehop_recording.specs.declared.error.RecordingError.{RecordingError}
use Rattle.framehop_stacks_cli.specs.Statuses.{stacks_status}

-- each stack has both counts together; or memory runs out, or the counts of one add up to 2^64 or more
abbrev pub Merges : Folded → Folded → Folded → ℕ → Type 0
Merges added old new status = ((status ≡ 0) × ((stack : List ℕ) → entry_of new stack ≡ together (entry_of old stack) (entry_of added stack)))
    ⊎ ((status ≡ 2) ⊎ ((status ≡ 1) × (stack : List ℕ) × IsTooLarge old added stack))

-- a recording is read to its end, or to a record that is refused, or no more can be taken of it
abbrev pub ended_status : Result (Option RecordingError) StacksError → ℕ
ended_status (Ok None) = 0
ended_status (Ok (Some refusal)) = stacks_status (Recording refusal)
ended_status (Err error) = stacks_status error

-- the stacks of a recording are added, and how it ended counts; a recording that has none adds nothing
abbrev pub AddsStacks : Result Unwound StacksError → Folded → Folded → ℕ → Type 0
AddsStacks (Ok unwound) old new status = (merged : ℕ) × Merges unwound.folded old new merged
    × (status ≡ (if merged == 0 then ended_status unwound.ended else merged))
AddsStacks (Err error) old new status = (status ≡ stacks_status error) × (new ≡ old)
