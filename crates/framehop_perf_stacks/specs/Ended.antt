-- Why a run over records ends before they do.
use Rattle.std.specs.Prelude.{◌≡◌, ◌<◌, ◌≤◌, ◌+◌, ◌-◌, ◌^◌, ℕ, ⊤, Bool, true, false, List, [], ◌∷◌, Option, Some, None, is_some, Result, Ok, Err, ◌==◌, ◌||◌, if◌then◌else◌}
use Rattle.std.specs.Option.{option_or}
use Rattle.std.specs.Result.{result_err}
use Rattle.framehop_processes.specs.Mappings.{changed_modules}
use Rattle.framehop_recording.specs.Mapping.{mapping_at}
use Rattle.framehop_recording.specs.Numbers.{PERF_RECORD_MMAP, PERF_RECORD_MMAP2, PERF_RECORD_COMM, PERF_RECORD_FORK, PERF_RECORD_LOST}
use Rattle.framehop_recording.specs.Records.{RecordView}
use Rattle.framehop_recording.specs.Tasks.{command_at, task_at, lost_at}
use Rattle.framehop_recording.specs.declared.error.RecordingError.{RecordingError}
use Rattle.framehop_perf_stacks.specs.Processes.{Mapped}
use Rattle.framehop_perf_stacks.specs.declared.changes.Change.{Change}
use Rattle.framehop_perf_stacks.specs.declared.changes.Change.TheVariants.{Map, Begin, Fork}
use Rattle.framehop_perf_stacks.specs.declared.error.StacksError.{StacksError}
use Rattle.framehop_perf_stacks.specs.declared.error.StacksError.TheVariants.{Recording, OutOfMemory, GenerationsExhausted, EmptyMapping, TooManySamples, CannotWrite}

-- what refuses a record that names a thread, if anything does
abbrev pub naming_refusal : RecordView → Option RecordingError
naming_refusal r =
    if r.kind == PERF_RECORD_COMM then result_err (command_at r)
    else if r.kind == PERF_RECORD_FORK then result_err (task_at r)
    else None

-- What refuses a record: its first refusal as a command, a task, a mapping or lost records. No other record is read, and of
-- a sample that can't be read is told why.
unfoldable pub refusal_in : RecordView → Option RecordingError
refusal_in r =
    if r.kind == PERF_RECORD_LOST then result_err (lost_at r)
    else if r.kind == PERF_RECORD_MMAP || r.kind == PERF_RECORD_MMAP2 then result_err (mapping_at r)
    else naming_refusal r

-- the first refusal among records, and the records before it
abbrev pub first_refusal : List RecordView → Option RecordingError
first_refusal [] = None
first_refusal (r ∷ records) = option_or (refusal_in r) (first_refusal records)

abbrev pub before_refusal : List RecordView → List RecordView
before_refusal [] = []
before_refusal (r ∷ records) = if is_some (refusal_in r) then [] else r ∷ before_refusal records

-- how many generations a change draws at most: one for the number of new mappings, and one for each module that a mapping adds
-- or removes
abbrev pub drawn_by : Change → Mapped → ℕ
drawn_by (Map pid mapping) mapped = 1 + changed_modules mapping (mapped pid)
drawn_by (Begin pid) mapped = 1
drawn_by (Fork pid parent) mapped = 1

-- the same of a record: where it changes nothing, at most two for the process of a sample
abbrev pub drawn_in : Result (Option Change) RecordingError → Mapped → ℕ
drawn_in (Ok (Some change)) mapped = drawn_by change mapped
drawn_in (Ok None) mapped = 2
drawn_in (Err refusal) mapped = 1

-- a change maps no address
abbrev pub IsWithoutAddress : Change → Type 0
IsWithoutAddress (Map pid mapping) = mapping.end ≤ mapping.start
IsWithoutAddress (Begin pid) = ⊥
IsWithoutAddress (Fork pid parent) = ⊥

-- What an error of a step says. Memory may always be wanted, a write has failed (`true`), the counter of generations ends where
-- it can't give all that are drawn, there are so many samples, or the record is refused.
abbrev pub MayEnd : Bool → Option RecordingError → ℕ → ℕ → StacksError → Type 0
MayEnd failed refusal drawn samples OutOfMemory = ⊤
MayEnd failed refusal drawn samples CannotWrite = failed ≡ true
MayEnd failed refusal drawn samples GenerationsExhausted = 2 ^ 64 - 1 < drawn
MayEnd failed refusal drawn samples TooManySamples = 2 ^ 64 ≤ samples
MayEnd failed refusal drawn samples EmptyMapping = ⊥
MayEnd failed refusal drawn samples (Recording error) = refusal ≡ Some error

-- an error says that a write failed
abbrev pub is_of_write : StacksError → Bool
is_of_write CannotWrite = true
is_of_write error = false

-- a result is such an error
abbrev pub is_unwritten : {T : Type 0} → Result T StacksError → Bool
is_unwritten (Ok value) = false
is_unwritten (Err error) = is_of_write error
