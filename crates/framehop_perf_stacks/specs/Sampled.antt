-- The mappings of a recording that its samples may need: those of a process that has a sample before they are gone, or off
-- which such a process is forked until then, since it begins with its parent's mappings (PERF_RECORD_SAMPLE, PERF_RECORD_COMM
-- and PERF_RECORD_FORK of perf_event.h).
use Rattle.std.specs.Prelude.{ℕ, Bool, false, not, ◌&&◌, ◌||◌, List, [], ◌∷◌, ◌++◌, option_to_list, Option, Some, None, Result, Ok, Err, ◌==◌, if◌then◌else◌}
use Rattle.std.specs.BTreeSet.{contains}
use Rattle.std.specs.Ordering.{nat_cmp}
use Rattle.framehop_recording.specs.Attributes.{AttributeView}
use Rattle.framehop_recording.specs.Mapping.{MappingView}
use Rattle.framehop_recording.specs.Numbers.{PERF_RECORD_COMM, PERF_RECORD_FORK}
use Rattle.framehop_recording.specs.Records.{RecordView}
use Rattle.framehop_recording.specs.Sample.{SampleView}
use Rattle.framehop_recording.specs.Tasks.{CommandView, command_at, task_at}
use Rattle.framehop_recording.specs.declared.error.RecordingError.{RecordingError}
use Rattle.framehop_recording.specs.declared.tasks.Task.{Task}
use Rattle.framehop_perf_stacks.specs.Changes.{code_mapping_in}
use Rattle.framehop_perf_stacks.specs.Recording.{sample_in}
use Rattle.framehop_perf_stacks.specs.declared.sampled.SampledProcesses.{SampledProcesses}

-- a process is one of these
abbrev pub has_process : SampledProcesses → ℕ → Bool
has_process sampled pid = contains nat_cmp sampled.pids pid

-- the process of a sample that can be read
abbrev pub sampled_by : Result (SampleView × ℕ) RecordingError → Option ℕ
sampled_by (Ok sample) = Some sample.0.pid
sampled_by (Err refusal) = None

-- the process off which one that has samples later is forked
abbrev pub forked_by : Result Task RecordingError → (ℕ → Bool) → Option ℕ
forked_by (Ok task) is_sampled = if not task.is_made_up && is_sampled task.pid then Some task.parent_pid else None
forked_by (Err refusal) is_sampled = None

-- the process that a record adds to those of the records after it
abbrev pub process_in : List AttributeView → RecordView → (ℕ → Bool) → Option ℕ
process_in attributes r is_sampled =
    if r.kind == PERF_RECORD_FORK then forked_by (task_at r) is_sampled else sampled_by (sample_in attributes r)

abbrev pub with_added : Option ℕ → (ℕ → Bool) → ℕ → Bool
with_added (Some added) is_sampled pid = (pid == added) || is_sampled pid
with_added None is_sampled pid = is_sampled pid

-- The process whose mappings are gone from a record on: it runs another program, or its number is that of a new process.
abbrev pub run_by : Result CommandView RecordingError → Option ℕ
run_by (Ok command) = if command.is_exec then Some command.pid else None
run_by (Err refusal) = None

abbrev pub made_by : Result Task RecordingError → Option ℕ
made_by (Ok task) = if task.pid == task.parent_pid then None else Some task.pid
made_by (Err refusal) = None

abbrev pub begun_in : RecordView → Option ℕ
begun_in r =
    if r.kind == PERF_RECORD_COMM then run_by (command_at r)
    else if r.kind == PERF_RECORD_FORK then made_by (task_at r)
    else None

abbrev pub without : Option ℕ → (ℕ → Bool) → ℕ → Bool
without (Some begun) is_sampled pid = not (pid == begun) && is_sampled pid
without None is_sampled pid = is_sampled pid

abbrev pub is_sampled_with : List AttributeView → RecordView → (ℕ → Bool) → ℕ → Bool
is_sampled_with attributes r is_sampled =
    with_added (process_in attributes r is_sampled) (without (begun_in r) is_sampled)

-- what a process has mapped before records is there at a sample among them: at one of its own, or of a process that is forked
-- off it
abbrev pub is_sampled : List AttributeView → List RecordView → ℕ → Bool
is_sampled attributes [] pid = false
is_sampled attributes (r ∷ records) pid = is_sampled_with attributes r (is_sampled attributes records) pid

-- a mapping of one of these processes
abbrev pub of_process : (ℕ → Bool) → Option MappingView → Option MappingView
of_process is_one (Some m) = if is_one m.pid then Some m else None
of_process is_one None = None

-- the mappings of code that are there at a sample, in the order of their records
abbrev pub sampled_mappings : List AttributeView → List RecordView → List MappingView
sampled_mappings attributes [] = []
sampled_mappings attributes (r ∷ records) =
    option_to_list (of_process (is_sampled attributes records) (code_mapping_in r)) ++ sampled_mappings attributes records
