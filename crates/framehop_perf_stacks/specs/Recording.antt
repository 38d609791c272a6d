-- What is read of a recording before its samples are unwound.
-- Which registers there are: perf_regs.h, by the readers of `framehop_recording`.
use Rattle.std.specs.Prelude.{◌≡◌, ℕ, ◌^◌, List, [], map, Bool, Option, Some, None, option_and_then, slice_get, Result, Ok, Err}
use Rattle.std.specs.List.{list_any}
use Rattle.framehop_bytes.specs.Bytes.{◌>>=◌}
use Rattle.framehop_recording.specs.Attributes.{AttributeView, attribute_view}
use Rattle.framehop_recording.specs.BuildIds.{FileBuildIdView, file_build_id_view, build_ids_of}
use Rattle.framehop_recording.specs.Bytes.{has_bit}
use Rattle.framehop_recording.specs.Events.{event_of, events_of}
use Rattle.framehop_recording.specs.Header.{header_at}
use Rattle.framehop_recording.specs.Numbers.{PERF_REG_ARM64_PC}
use Rattle.framehop_recording.specs.Order.{timed, IsInOrderOfTime}
use Rattle.framehop_recording.specs.Records.{RecordView, record_view, run_of}
use Rattle.framehop_recording.specs.Sample.{SampleView, sample_at}
use Rattle.framehop_recording.specs.declared.error.RecordingError.{RecordingError}
use Rattle.framehop_recording.specs.declared.error.RecordingError.TheVariants.{NoThread}
use Rattle.framehop_recording.specs.declared.header.Header.{Header}
use Rattle.framehop_recording.specs.declared.order.TimedRecord.{TimedRecord}
use Rattle.framehop_recording.specs.declared.records.Record.{Record}
use Rattle.framehop_perf_stacks.specs.declared.recording.Recording.{Recording}

-- the event that a record belongs to
abbrev pub attribute_of : List AttributeView → RecordView → Option AttributeView
attribute_of attributes r = option_and_then (λ event. slice_get attributes event) (event_of attributes r)

-- the sample of a record of an event, and the mask of its registers
abbrev pub sample_by : Option AttributeView → RecordView → Result (SampleView × ℕ) RecordingError
sample_by None r = Err (NoThread r.offset)
sample_by (Some a) r = do
  sample ← sample_at a r
  Ok (sample, a.sample_regs_user)

-- the same among events
unfoldable pub sample_in : List AttributeView → RecordView → Result (SampleView × ℕ) RecordingError
sample_in attributes r = sample_by (attribute_of attributes r) r

-- The samples are of aarch64 where an event records its program counter. The user registers of x86_64 have no bit there
-- (perf_regs.h of both).
abbrev pub are_of_aarch64 : List AttributeView → Bool
are_of_aarch64 attributes = list_any (λ a. has_bit a.sample_regs_user (2 ^ PERF_REG_ARM64_PC)) attributes

-- the records in the order of their times
abbrev pub records_in : List TimedRecord → List RecordView
records_in records = map (λ timed. record_view timed.«record») records

-- the events of a file
abbrev pub events_in : List ℕ → Result (List AttributeView) RecordingError
events_in file = do
  header ← header_at file
  events_of file header

-- build ids, of which there are none where they can't be read
abbrev pub known_build_ids : Result (List FileBuildIdView) RecordingError → List FileBuildIdView
known_build_ids (Ok build_ids) = build_ids
known_build_ids (Err refusal) = []

-- What was read of a file with a header: its events, its records in the order of their times up to the first that is
-- refused, why that is, and the build ids of its files.
pub record IsReadBy (file : List ℕ) (header : Header) (recording : Recording) : Type 0 where
  pub events : events_of file header ≡ Ok (map attribute_view recording.events.attributes.items)
  pub records : (records : List Record) × (map record_view records ≡ (run_of file header.records).records)
      × IsInOrderOfTime (map (timed (map attribute_view recording.events.attributes.items)) records) recording.records.items
  pub refusal : recording.refusal ≡ (run_of file header.records).refusal
  pub build_ids : map file_build_id_view recording.build_ids.items ≡ known_build_ids (build_ids_of file header)

abbrev pub IsReadOf : List ℕ → Recording → Type 0
IsReadOf file recording = (header : Header) × (header_at file ≡ Ok header) × IsReadBy file header recording
