-- The build ids of the files that were mapped: the section of HEADER_BUILD_ID of perf.data-file-format.txt, and in
-- it `perf_record_header_build_id` of perf's event.h.
use Rattle.std.specs.Prelude.{ℕ, ◌^◌, ◌%◌, List, [], take, drop, Option, Some, None, Result, Ok, Err, if◌then◌else◌}
use Rattle.framehop_bytes.specs.Bytes.{◌>>=◌}
use Rattle.framehop_recording.specs.Numbers.{HEADER_BUILD_ID, PERF_RECORD_MISC_BUILD_ID_SIZE}
use Rattle.framehop_recording.specs.Fields.{BUILD_ID_PID, BUILD_ID_BUILD_ID, BUILD_ID_SIZE, BUILD_ID_FILENAME}
use Rattle.framehop_recording.specs.Bytes.{u32_at, each_of, has_bit}
use Rattle.framehop_recording.specs.Header.{feature_section}
use Rattle.framehop_recording.specs.Records.{RecordView, run_of}
use Rattle.framehop_bytes.specs.String.{before_nul}
use Rattle.framehop_recording.specs.declared.error.RecordingError.{RecordingError}
use Rattle.framehop_recording.specs.declared.error.RecordingError.TheVariants.{ShortRecord}
use Rattle.framehop_recording.specs.declared.header.Header.{Header}
use Rattle.framehop_recording.specs.declared.header.Section.{Section}
use Rattle.framehop_recording.specs.declared.build_ids.FileBuildId.{FileBuildId}

-- a file's build id by its values
pub record FileBuildIdView : Type 0 where
  pub pid : ℕ
  pub build_id : List ℕ
  pub name : List ℕ

abbrev pub file_build_id_view : FileBuildId → FileBuildIdView
file_build_id_view b = record { pid = b.pid; build_id = b.build_id.now; name = b.name.now }

-- where the section of the build ids lies
abbrev pub build_ids_section : List ℕ → Header → Result (Option Section) RecordingError
build_ids_section file header = feature_section file header (2 ^ HEADER_BUILD_ID)

-- A process, 20 bytes, how many of them are the build id, three reserved bytes, and the name. Where
-- PERF_RECORD_MISC_BUILD_ID_SIZE does not say that the number is there, all 20 are.
unfoldable pub file_build_id_at : RecordView → Result FileBuildIdView RecordingError
file_build_id_at r = do
  pid ← u32_at r.body BUILD_ID_PID (ShortRecord r.offset)
  size ← u32_at r.body BUILD_ID_SIZE (ShortRecord r.offset)
  Ok (record { pid = pid.0; build_id = take (if has_bit r.misc PERF_RECORD_MISC_BUILD_ID_SIZE then size.0 % 256 else 20) (take 20 (drop BUILD_ID_BUILD_ID r.body)); name = before_nul (drop BUILD_ID_FILENAME r.body) })

-- those of a run, which no refusal may end
abbrev pub build_ids_in : List RecordView → Option RecordingError → Result (List FileBuildIdView) RecordingError
build_ids_in records (Some error) = Err error
build_ids_in records None = each_of file_build_id_at records

-- those of a section, none where there is no section
abbrev pub build_ids_at : List ℕ → Option Section → Result (List FileBuildIdView) RecordingError
build_ids_at file None = Ok []
build_ids_at file (Some section) = let run = run_of file section in build_ids_in run.records run.refusal

-- those of a file
unfoldable pub build_ids_of : List ℕ → Header → Result (List FileBuildIdView) RecordingError
build_ids_of file header = do
  section ← build_ids_section file header
  build_ids_at file section
