-- The names of threads at a time, and what a record does to them: PERF_RECORD_COMM and PERF_RECORD_FORK of
-- perf_event.h.
use Rattle.std.specs.Prelude.{ℕ, List, Result, Ok, Err, ◌==◌, if◌then◌else◌, codes}
use Rattle.std.specs.BTreeMap.{get}
use Rattle.std.specs.Option.{option_map_or}
use Rattle.std.specs.Ordering.{nat_cmp}
use Rattle.framehop_recording.specs.Numbers.{PERF_RECORD_COMM, PERF_RECORD_FORK}
use Rattle.framehop_recording.specs.Records.{RecordView}
use Rattle.framehop_recording.specs.Tasks.{CommandView, command_at, task_at}
use Rattle.framehop_recording.specs.declared.error.RecordingError.{RecordingError}
use Rattle.framehop_recording.specs.declared.tasks.Task.{Task}
use Rattle.framehop_perf_stacks.specs.declared.names.Names.{Names}

-- the name of each thread: one that is not known is called so
abbrev pub Named : Type 0
Named = ℕ → List ℕ

abbrev pub named_in : Names → Named
named_in names tid = option_map_or (λ name. name.value.items) (get nat_cmp names.by_tid tid) (codes "[unknown]")

-- that of one thread is another
abbrev pub with_name : ℕ → List ℕ → Named → Named
with_name tid name named thread = if thread == tid then name else named thread

-- the names after a command, and after a new thread, which has its parent's
abbrev pub named_by : Result CommandView RecordingError → Named → Named
named_by (Ok command) named = with_name command.tid command.name named
named_by (Err refusal) named = named

abbrev pub named_as_parent : Result Task RecordingError → Named → Named
named_as_parent (Ok task) named = with_name task.tid (named task.parent_tid) named
named_as_parent (Err refusal) named = named

-- the names after a record: a thread gets one, or begins with that of the thread that made it
abbrev pub named_after : RecordView → Named → Named
named_after r named =
    if r.kind == PERF_RECORD_COMM then named_by (command_at r) named
    else if r.kind == PERF_RECORD_FORK then named_as_parent (task_at r) named
    else named
