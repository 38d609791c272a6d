-- What is kept of the records of a recording that is read in parts.
use Rattle.std.specs.Prelude.{ℕ, ◌*◌, List, length, take, unwrap_or, ◌==◌, if◌then◌else◌}
use Rattle.framehop_recording.specs.Attributes.{AttributeView}
use Rattle.framehop_recording.specs.Events.{sample_fields, time_of}
use Rattle.framehop_recording.specs.Numbers.{PERF_RECORD_SAMPLE}
use Rattle.framehop_recording.specs.Records.{RecordView, record_view}
use Rattle.framehop_recording.specs.declared.order.TimedRecord.{TimedRecord}
use Rattle.framehop_perf_stacks.specs.Bodies.{with_body}
use Rattle.framehop_perf_stacks.specs.declared.kept.KeptRecord.{KeptRecord}

-- a record with its time, in nanoseconds, or 0 where it has none
pub record TimedView : Type 0 where
  pub time : ℕ
  pub «record» : RecordView

abbrev pub timed_view : TimedRecord → TimedView
timed_view timed = record { time = timed.time; «record» = record_view timed.«record» }

-- The bytes that are kept of a record's body: of a sample those of the fields of eight bytes with which it may begin. They say
-- which event it is of, which thread, and when it was made.
abbrev pub kept_body : RecordView → List ℕ
kept_body r = if r.kind == PERF_RECORD_SAMPLE then take (8 * length sample_fields) r.body else r.body

-- a record with what is kept of its body
abbrev pub kept_record : RecordView → RecordView
kept_record r = with_body r (kept_body r)

-- what is kept of a record of these events: its time is that of the whole record
abbrev pub kept_of : List AttributeView → RecordView → TimedView
kept_of attributes r = record { time = unwrap_or (time_of attributes r) 0; «record» = kept_record r }

-- a record that was kept
abbrev pub kept_view : KeptRecord → TimedView
kept_view kept = record {
  time = kept.time;
  «record» = record { offset = kept.offset; kind = kept.kind; misc = kept.misc; body = kept.body.items };
}
