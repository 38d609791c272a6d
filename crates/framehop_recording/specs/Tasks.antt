-- Processes and threads, and lost records: PERF_RECORD_COMM, PERF_RECORD_EXIT, PERF_RECORD_FORK and
-- PERF_RECORD_LOST of perf_event.h.
use Rattle.std.specs.Prelude.{ℕ, List, drop, Bool, ◌||◌, Result, Ok, Err, ◌==◌, if◌then◌else◌}
use Rattle.framehop_bytes.specs.Bytes.{◌>>=◌}
use Rattle.framehop_recording.specs.Numbers.{PERF_RECORD_LOST, PERF_RECORD_COMM, PERF_RECORD_EXIT, PERF_RECORD_FORK, PERF_RECORD_MISC_COMM_EXEC, PERF_RECORD_MISC_FORK_EXEC}
use Rattle.framehop_recording.specs.Fields.{COMM_PID, COMM_TID, COMM_COMM, FORK_PID, FORK_PPID, FORK_TID, FORK_PTID, FORK_TIME, LOST_LOST}
use Rattle.framehop_recording.specs.Bytes.{u32_at, u64_at, has_bit}
use Rattle.framehop_recording.specs.Records.{RecordView}
use Rattle.framehop_bytes.specs.String.{before_nul}
use Rattle.framehop_recording.specs.declared.error.RecordingError.{RecordingError}
use Rattle.framehop_recording.specs.declared.error.RecordingError.TheVariants.{OtherKind, ShortRecord}
use Rattle.framehop_recording.specs.declared.tasks.Command.{Command}
use Rattle.framehop_recording.specs.declared.tasks.Task.{Task}

-- a command by its values
pub record CommandView : Type 0 where
  pub pid : ℕ
  pub tid : ℕ
  pub is_exec : Bool
  pub name : List ℕ

abbrev pub command_view : Command → CommandView
command_view c = record { pid = c.pid; tid = c.tid; is_exec = c.is_exec; name = c.name.now }

-- a new name of a thread, of an exec where PERF_RECORD_MISC_COMM_EXEC says so
unfoldable pub command_at : RecordView → Result CommandView RecordingError
command_at r = if r.kind == PERF_RECORD_COMM then (do
  pid ← u32_at r.body COMM_PID (ShortRecord r.offset)
  tid ← u32_at r.body COMM_TID (ShortRecord r.offset)
  Ok (record { pid = pid.0; tid = tid.0; is_exec = has_bit r.misc PERF_RECORD_MISC_COMM_EXEC; name = before_nul (drop COMM_COMM r.body) })) else Err (OtherKind r.offset)

-- A thread that begins or ends. One that ran before the recording began is made up by perf: of it the flag says that it is
-- no copy of its parent.
unfoldable pub task_at : RecordView → Result Task RecordingError
task_at r = if r.kind == PERF_RECORD_FORK || r.kind == PERF_RECORD_EXIT then (do
  pid ← u32_at r.body FORK_PID (ShortRecord r.offset)
  parent_pid ← u32_at r.body FORK_PPID (ShortRecord r.offset)
  tid ← u32_at r.body FORK_TID (ShortRecord r.offset)
  parent_tid ← u32_at r.body FORK_PTID (ShortRecord r.offset)
  time ← u64_at r.body FORK_TIME (ShortRecord r.offset)
  Ok (record { pid = pid.0; parent_pid = parent_pid.0; tid = tid.0; parent_tid = parent_tid.0; is_made_up = has_bit r.misc PERF_RECORD_MISC_FORK_EXEC; time = time.0 })) else Err (OtherKind r.offset)

-- how many records the kernel lost
unfoldable pub lost_at : RecordView → Result ℕ RecordingError
lost_at r = if r.kind == PERF_RECORD_LOST then (do
  lost ← u64_at r.body LOST_LOST (ShortRecord r.offset)
  Ok lost.0) else Err (OtherKind r.offset)
