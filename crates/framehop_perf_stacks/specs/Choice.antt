-- Which samples of a recording are counted.
use Rattle.std.specs.Prelude.{◌≡◌, ℕ, nat_eq, nat_le, length, Bool, true, ◌&&◌, ◌||◌, List, [], ◌∷◌, map, codes, Option, Some, None, is_none, Result, Ok, Err, ◌==◌, if◌then◌else◌}
use Rattle.std.specs.Cmp.Lexicographic.{pointwise}
use Rattle.std.specs.List.{list_any}
use Rattle.framehop_recording.specs.Attributes.{AttributeView, attribute_view}
use Rattle.framehop_recording.specs.Events.{event_of, time_of}
use Rattle.framehop_recording.specs.Numbers.{PERF_RECORD_SAMPLE}
use Rattle.framehop_recording.specs.Records.{RecordView}
use Rattle.framehop_recording.specs.Sample.{SampleView}
use Rattle.framehop_recording.specs.declared.error.RecordingError.{RecordingError}
use Rattle.framehop_perf_stacks.specs.Names.{Named, named_after}
use Rattle.framehop_perf_stacks.specs.Recording.{sample_in, records_in}
use Rattle.framehop_perf_stacks.specs.declared.choice.Choice.{Choice}
use Rattle.framehop_perf_stacks.specs.declared.recording.Recording.{Recording}
use Rattle.framehop_perf_stacks.specs.declared.window.Window.{Window}

-- one of a list is meant, or any where the list is empty
abbrev pub is_wanted : {A : Type 0} → (A → Bool) → List A → Bool
is_wanted is_meant xs = (length xs == 0) || list_any is_meant xs

-- a number that may not be known is meant by a list
abbrev pub is_number_wanted : Option ℕ → List ℕ → Bool
is_number_wanted (Some number) numbers = is_wanted (λ n. n == number) numbers
is_number_wanted None numbers = length numbers == 0

-- A time lies in a window: from its first time on and not after its last, where these are given. One that is not known does
-- (tools/perf/util/time-utils.c, `perf_time__skip_sample`).
abbrev pub is_from : Option ℕ → ℕ → Bool
is_from (Some first) time = nat_le first time
is_from None time = true

abbrev pub is_until : Option ℕ → ℕ → Bool
is_until (Some last) time = nat_le time last
is_until None time = true

abbrev pub is_within : Window → Option ℕ → Bool
is_within window (Some time) = is_from window.first time && is_until window.last time
is_within window None = true

-- A thread is meant, by its name at the time, its process and itself (tools/perf/util/thread.h, `thread__is_filtered`). The
-- thread of a sample that can't be read is meant only where none is asked for.
abbrev pub is_of_thread : Choice → Named → Result (SampleView × ℕ) RecordingError → Bool
is_of_thread choice named (Ok sample) =
    is_wanted (λ pid. pid == sample.0.pid) choice.processes.now && is_wanted (λ tid. tid == sample.0.tid) choice.threads.now
    && is_wanted (λ name. pointwise nat_eq name.now (named sample.0.tid)) choice.commands.now
is_of_thread choice named (Err refusal) =
    (length choice.processes.now == 0) && (length choice.threads.now == 0) && (length choice.commands.now == 0)

-- the sample of a record is chosen, by the names of threads at its time
abbrev pub is_sample_chosen : Choice → List AttributeView → Named → RecordView → Bool
is_sample_chosen choice attributes named r =
    is_number_wanted (event_of attributes r) choice.events.now
    && is_within choice.window (time_of attributes r)
    && is_of_thread choice named (sample_in attributes r)

-- a record is chosen: each that is no sample, and each sample that is asked for
unfoldable pub is_record_chosen : Choice → List AttributeView → Named → RecordView → Bool
is_record_chosen choice attributes named r =
    if r.kind == PERF_RECORD_SAMPLE then is_sample_chosen choice attributes named r else true

-- the chosen ones of records, one after another, from the names of threads on
abbrev pub chosen_among : Choice → List AttributeView → Named → List RecordView → List RecordView
chosen_among choice attributes named [] = []
chosen_among choice attributes named (r ∷ records) =
    let later = chosen_among choice attributes (named_after r named) records in
    if is_record_chosen choice attributes named r then r ∷ later else later

-- a recording has of another's records those that are chosen
pub record IsChosenOf (choice : Choice) (whole chosen : Recording) : Type 0 where
  pub records : records_in chosen.records.items
      ≡ chosen_among choice (map attribute_view whole.events.attributes.items) (λ tid. codes "[unknown]") (records_in whole.records.items)
  pub events : map attribute_view chosen.events.attributes.items ≡ map attribute_view whole.events.attributes.items
  pub build_ids : chosen.build_ids.items ≡ whole.build_ids.items
  pub refusal : chosen.refusal ≡ whole.refusal

-- all samples are chosen
abbrev pub is_of_all : Choice → Bool
is_of_all choice =
    (length choice.commands.now == 0) && (length choice.processes.now == 0) && (length choice.threads.now == 0)
    && (length choice.events.now == 0) && is_none choice.window.first && is_none choice.window.last
