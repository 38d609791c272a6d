-- The mappings of files into processes: PERF_RECORD_MMAP and PERF_RECORD_MMAP2 of perf_event.h.
use Rattle.std.specs.Prelude.{ℕ, List, [], ◌%◌, take, drop, Bool, not, Result, Ok, Err, ◌==◌, if◌then◌else◌}
use Rattle.framehop_bytes.specs.String.{before_nul}
use Rattle.framehop_bytes.specs.Bytes.{◌>>=◌}
use Rattle.framehop_recording.specs.Numbers.{PERF_RECORD_MMAP, PERF_RECORD_MMAP2, PERF_RECORD_MISC_MMAP_DATA, PERF_RECORD_MISC_MMAP_BUILD_ID}
use Rattle.framehop_recording.specs.Fields.{MMAP_PID, MMAP_ADDR, MMAP_LEN, MMAP_PGOFF, MMAP_FILENAME, MMAP2_BUILD_ID_SIZE, MMAP2_BUILD_ID, MMAP2_FILENAME}
use Rattle.framehop_recording.specs.Bytes.{u32_at, u64_at, block_at, has_bit}
use Rattle.framehop_recording.specs.Records.{RecordView}
use Rattle.framehop_recording.specs.declared.error.RecordingError.{RecordingError}
use Rattle.framehop_recording.specs.declared.error.RecordingError.TheVariants.{OtherKind, ShortRecord}
use Rattle.framehop_recording.specs.declared.mapping.Mapping.{Mapping}

-- a mapping by its values
pub record MappingView : Type 0 where
  pub pid : ℕ
  pub start : ℕ
  pub size : ℕ
  pub offset : ℕ
  pub is_executable : Bool
  pub build_id : List ℕ
  pub name : List ℕ

abbrev pub mapping_view : Mapping → MappingView
mapping_view m = record {
  pid = m.pid;
  start = m.start;
  size = m.size;
  offset = m.offset;
  is_executable = m.is_executable;
  build_id = m.build_id.now;
  name = m.name.now;
}

-- The build id in the place of the device and inode, where PERF_RECORD_MISC_MMAP_BUILD_ID says so: its size, three
-- reserved bytes, and at most 20 bytes.
unfoldable pub build_id_at : RecordView → Result (List ℕ) RecordingError
build_id_at r = if has_bit r.misc PERF_RECORD_MISC_MMAP_BUILD_ID then (do
  size ← u32_at r.body MMAP2_BUILD_ID_SIZE (ShortRecord r.offset)
  Ok (take (size.0 % 256) (take 20 (drop MMAP2_BUILD_ID r.body)))) else Ok []

-- The fields, of which the name comes last; PERF_RECORD_MISC_MMAP_DATA says that no code is mapped.
unfoldable pub mapping_fields : RecordView → ℕ → List ℕ → Result MappingView RecordingError
mapping_fields r name_at build_id = do
  pid ← u32_at r.body MMAP_PID (ShortRecord r.offset)
  start ← u64_at r.body MMAP_ADDR (ShortRecord r.offset)
  size ← u64_at r.body MMAP_LEN (ShortRecord r.offset)
  offset ← u64_at r.body MMAP_PGOFF (ShortRecord r.offset)
  fields ← block_at r.body 0 name_at (ShortRecord r.offset)
  Ok (record { pid = pid.0; start = start.0; size = size.0; offset = offset.0; is_executable = not (has_bit r.misc PERF_RECORD_MISC_MMAP_DATA); build_id = build_id; name = before_nul (drop name_at r.body) })

-- the mapping of a record of either kind
unfoldable pub mapping_at : RecordView → Result MappingView RecordingError
mapping_at r = if r.kind == PERF_RECORD_MMAP then mapping_fields r MMAP_FILENAME [] else if r.kind == PERF_RECORD_MMAP2 then (do
  build_id ← build_id_at r
  mapping_fields r MMAP2_FILENAME build_id) else Err (OtherKind r.offset)
