-- What a record changes in the processes: PERF_RECORD_MMAP, PERF_RECORD_MMAP2, PERF_RECORD_COMM and PERF_RECORD_FORK of
-- perf_event.h.
use Rattle.std.specs.Prelude.{ℕ, ◌+◌, ◌-◌, ◌^◌, min, Bool, true, false, not, ◌&&◌, ◌||◌, nat_le, Option, Some, None, option_and_then, Result, Ok, Err, ◌==◌, if◌then◌else◌}
use Rattle.framehop_bytes.specs.Bytes.{◌>>=◌}
use Rattle.framehop_memory.specs.Segment.{base_of}
use Rattle.framehop_processes.specs.declared.mapping.Mapping.{Mapping}
use Rattle.framehop_recording.specs.Mapping.{MappingView, mapping_at}
use Rattle.framehop_recording.specs.Numbers.{PERF_RECORD_MMAP, PERF_RECORD_MMAP2, PERF_RECORD_COMM, PERF_RECORD_FORK}
use Rattle.framehop_recording.specs.Records.{RecordView}
use Rattle.framehop_recording.specs.Tasks.{CommandView, command_at, task_at}
use Rattle.framehop_recording.specs.declared.error.RecordingError.{RecordingError}
use Rattle.framehop_recording.specs.declared.tasks.Task.{Task}
use Rattle.framehop_processes.specs.Files.{number_in, map_number_in, object_in}
use Rattle.framehop_processes.specs.Place.{or_else}
use Rattle.framehop_perf_stacks.specs.PerfMap.{is_anonymous}
use Rattle.framehop_perf_stacks.specs.declared.changes.Change.{Change}
use Rattle.framehop_perf_stacks.specs.declared.changes.Change.TheVariants.{Map, Begin, Fork}
use Rattle.framehop_processes.specs.declared.object_file.ObjectFile.{ObjectFile}
use Rattle.framehop_processes.specs.declared.files.Files.{Files}

-- a mapping of a process's code: those of the kernel are of the process 2^32 - 1
abbrev pub is_of_code : MappingView → Bool
is_of_code m = m.is_executable && not (m.pid == 2 ^ 32 - 1)

-- the mapping of a record, if it is one of a process's code
abbrev pub code_of : Result MappingView RecordingError → Option MappingView
code_of (Ok m) = if is_of_code m then Some m else None
code_of (Err refusal) = None

unfoldable pub code_mapping_in : RecordView → Option MappingView
code_mapping_in r =
    if r.kind == PERF_RECORD_MMAP || r.kind == PERF_RECORD_MMAP2 then code_of (mapping_at r) else None

-- where a mapping ends, within 64 bits
abbrev pub end_of_mapping : MappingView → ℕ
end_of_mapping m = min (m.start + m.size) (2 ^ 64 - 1)

-- where the file's stated address 0 is, if the mapping is of an executable segment of a file that was read (4,096 is the size
-- of a page)
abbrev pub base_in : Option ObjectFile → MappingView → Option ℕ
base_in object m = option_and_then (λ object. base_of object.segments.items m.offset m.size m.start) object

-- with the unwind data and the names of the file; else its relative addresses are offsets of the file
abbrev pub mapping_based : MappingView → ℕ → Option ℕ → Mapping
mapping_based m file (Some base) =
    record { start = m.start; end = end_of_mapping m; base_avma = base; file = file; has_sections = true }
mapping_based m file None =
    record { start = m.start; end = end_of_mapping m; base_avma = m.start - m.offset; file = file; has_sections = false }

-- the number of the file of a mapping: of one that is of no file that of the map of its process, if there is one
abbrev pub number_for : Files → MappingView → Option ℕ
number_for files m =
    if is_anonymous m.name then or_else (map_number_in files m.pid) (number_in files m.name) else number_in files m.name

-- none without an address
abbrev pub maps_numbered : Files → MappingView → ℕ → Option Change
maps_numbered files m file =
    if nat_le (end_of_mapping m) m.start then None
    else Some (Map m.pid (mapping_based m file (base_in (object_in files file) m)))

-- the change of a record that maps a file which is known
abbrev pub maps_file : Files → MappingView → Option Change
maps_file files m = if is_of_code m then option_and_then (maps_numbered files m) (number_for files m) else None

-- another program begins without mappings
abbrev pub execs_program : CommandView → Option Change
execs_program command = if command.is_exec then Some (Begin command.pid) else None

-- A new process begins as a copy of its parent; one that ran before the recording began, without mappings. A new thread
-- changes no mappings.
abbrev pub forks_process : Task → Option Change
forks_process task =
    if task.pid == task.parent_pid then None
    else if task.is_made_up then Some (Begin task.pid)
    else Some (Fork task.pid task.parent_pid)

-- what a record changes, if anything
unfoldable pub change_in : Files → RecordView → Result (Option Change) RecordingError
change_in files r =
    if r.kind == PERF_RECORD_MMAP || r.kind == PERF_RECORD_MMAP2 then (do
      mapping ← mapping_at r
      Ok (maps_file files mapping))
    else if r.kind == PERF_RECORD_COMM then (do
      command ← command_at r
      Ok (execs_program command))
    else if r.kind == PERF_RECORD_FORK then (do
      task ← task_at r
      Ok (forks_process task))
    else Ok None
