-- Which records are chosen, one after another.
use Rattle.std.proofs.Common.{◌≡◌, ℕ, Bool, true, false, cond, List, [], ◌∷◌, ◌++◌, length, Option, Some, None, Result, Ok, Err, nat_eq, refl, ap, sym, ◌∙◌, append_assoc, append-nil, true≢false}
use Rattle.std.specs.Prelude.{◌==◌, ◌&&◌, ◌||◌, is_none}
use Rattle.std.specs.List.{list_any}
use Rattle.std.specs.Cmp.Lexicographic.{pointwise}
use Rattle.std.proofs.lemmas.List.{map-append}
use Rattle.framehop_recording.specs.Attributes.{AttributeView}
use Rattle.framehop_recording.specs.Events.{event_of, time_of}
use Rattle.framehop_recording.specs.Numbers.{PERF_RECORD_SAMPLE}
use Rattle.framehop_recording.specs.Records.{RecordView, record_view}
use Rattle.framehop_recording.specs.Sample.{SampleView}
use Rattle.framehop_recording.specs.declared.error.RecordingError.{RecordingError}
use Rattle.framehop_recording.specs.declared.order.TimedRecord.{TimedRecord}
use Rattle.framehop_perf_stacks.specs.Choice.{is_wanted, is_number_wanted, is_from, is_until, is_within, is_of_thread, is_sample_chosen, is_record_chosen, chosen_among, is_of_all}
use Rattle.framehop_perf_stacks.specs.Names.{Named, named_after}
use Rattle.framehop_perf_stacks.specs.Recording.{sample_in, records_in}
use Rattle.framehop_perf_stacks.specs.declared.choice.Choice.{Choice}
use Rattle.framehop_perf_stacks.specs.declared.window.Window.{Window}
use Rattle.framehop_perf_stacks.proofs.StateLemmas.{named-same}

-- ---- names that are the same choose the same

module _ (choice : Choice) (attributes : List AttributeView) where
  thread-same : (named other : Named) → ((tid : ℕ) → named tid ≡ other tid) → (sample : Result (SampleView × ℕ) RecordingError)
      → is_of_thread choice named sample ≡ is_of_thread choice other sample
  thread-same named other same (Ok sample) =
      ap (λ known. is_wanted (λ pid. pid == sample.0.pid) choice.processes.now && is_wanted (λ tid. tid == sample.0.tid) choice.threads.now
      && is_wanted (λ name. pointwise nat_eq name.now known) choice.commands.now) (same sample.0.tid)
  thread-same named other same (Err refusal) = refl

  record-same : (named other : Named) → ((tid : ℕ) → named tid ≡ other tid) → (r : RecordView)
      → is_record_chosen choice attributes named r ≡ is_record_chosen choice attributes other r
  unfolding is_record_chosen
  record-same named other same r =
      ap (λ b. cond (r.kind == PERF_RECORD_SAMPLE) (is_number_wanted (event_of attributes r) choice.events.now
      && is_within choice.window (time_of attributes r) && b) true) (thread-same named other same (sample_in attributes r))

  pub chosen-same : (named other : Named) → ((tid : ℕ) → named tid ≡ other tid) → (records : List RecordView)
      → chosen_among choice attributes named records ≡ chosen_among choice attributes other records
  chosen-same named other same [] = refl
  chosen-same named other same (r ∷ records) =
      ap (λ b. cond b (r ∷ chosen_among choice attributes (named_after r named) records) (chosen_among choice attributes (named_after r named) records))
      (record-same named other same r)
      ∙ ap (λ later. cond (is_record_chosen choice attributes other r) (r ∷ later) later)
      (chosen-same (named_after r named) (named_after r other) (named-same named other same r) records)

  -- ---- one record after another

  part : (b : Bool) (before : List RecordView) (r : RecordView) (later : List RecordView)
      → before ++ cond b (r ∷ later) later ≡ (before ++ cond b (r ∷ []) []) ++ later
  part true before r later = sym (append_assoc before (r ∷ []) later)
  part false before r later = ap (λ list. list ++ later) (sym (append-nil before))

  pushed-view : (b : Bool) (chosen : List TimedRecord) (timed : TimedRecord)
      → records_in (chosen ++ cond b (timed ∷ []) []) ≡ records_in chosen ++ cond b (record_view timed.«record» ∷ []) []
  pushed-view true chosen timed = map-append (λ t. record_view t.«record») chosen (timed ∷ [])
  pushed-view false chosen timed = map-append (λ t. record_view t.«record») chosen []

  -- what was chosen before a record and what will be after it make all
  pub chosen-next : (all : List RecordView) (named next : Named) (timed : TimedRecord) (chosen chosen' : List TimedRecord)
      (left rest : List RecordView) (b : Bool) → records_in chosen ++ chosen_among choice attributes named left ≡ all
      → left ≡ record_view timed.«record» ∷ rest → b ≡ is_record_chosen choice attributes named (record_view timed.«record»)
      → chosen' ≡ chosen ++ cond b (timed ∷ []) [] → ((tid : ℕ) → next tid ≡ named_after (record_view timed.«record») named tid)
      → records_in chosen' ++ chosen_among choice attributes next rest ≡ all
  chosen-next all named next timed chosen chosen' left rest b so_far is decided pushed after =
      let r = record_view timed.«record» in
      let later = chosen_among choice attributes (named_after r named) rest in
      ap (λ list. records_in list ++ chosen_among choice attributes next rest) pushed
      ∙ ap (λ list. list ++ chosen_among choice attributes next rest) (pushed-view b chosen timed)
      ∙ ap (λ list. (records_in chosen ++ cond b (r ∷ []) []) ++ list) (chosen-same next (named_after r named) after rest)
      ∙ sym (part b (records_in chosen) r later)
      ∙ ap (λ c. records_in chosen ++ cond c (r ∷ later) later) decided
      ∙ ap (λ list. records_in chosen ++ chosen_among choice attributes named list) (sym is)
      ∙ so_far

  pub chosen-whole : (all : List RecordView) (named : Named) (chosen : List TimedRecord) (left : List RecordView)
      → records_in chosen ++ chosen_among choice attributes named left ≡ all → left ≡ [] → records_in chosen ≡ all
  chosen-whole all named chosen left so_far none =
      sym (append-nil (records_in chosen)) ∙ ap (λ list. records_in chosen ++ chosen_among choice attributes named list) (sym none) ∙ so_far

-- ---- where nothing is asked for, all are chosen

parts : (a b c d e f : Bool) → (a && b && c && d && e && f) ≡ true
    → (a ≡ true) × (b ≡ true) × (c ≡ true) × (d ≡ true) × (e ≡ true) × (f ≡ true)
parts true true true true true true is = (refl, refl, refl, refl, refl, refl)
parts false b c d e f is = absurd (true≢false (sym is))
parts true false c d e f is = absurd (true≢false (sym is))
parts true true false d e f is = absurd (true≢false (sym is))
parts true true true false e f is = absurd (true≢false (sym is))
parts true true true true false f is = absurd (true≢false (sym is))
parts true true true true true false is = absurd (true≢false (sym is))

wanted-all : {A : Type 0} (is_meant : A → Bool) (xs : List A) → (length xs == 0) ≡ true → is_wanted is_meant xs ≡ true
wanted-all is_meant xs is = ap (λ b. b || list_any is_meant xs) is

number-all : (number : Option ℕ) (numbers : List ℕ) → (length numbers == 0) ≡ true → is_number_wanted number numbers ≡ true
number-all (Some number) numbers is = wanted-all (λ n. n == number) numbers is
number-all None numbers is = is

from-all : (first : Option ℕ) (time : ℕ) → is_none first ≡ true → is_from first time ≡ true
from-all (Some first) time is = absurd (true≢false (sym is))
from-all None time is = refl

until-all : (last : Option ℕ) (time : ℕ) → is_none last ≡ true → is_until last time ≡ true
until-all (Some last) time is = absurd (true≢false (sym is))
until-all None time is = refl

within-all : (window : Window) (time : Option ℕ) → is_none window.first ≡ true → is_none window.last ≡ true → is_within window time ≡ true
within-all window (Some time) first last = rw (from-all window.first time first, until-all window.last time last) refl
within-all window None first last = refl

module _ (choice : Choice) (attributes : List AttributeView) (all : is_of_all choice ≡ true) where
  each-all : ((length choice.commands.now == 0) ≡ true) × ((length choice.processes.now == 0) ≡ true)
      × ((length choice.threads.now == 0) ≡ true) × ((length choice.events.now == 0) ≡ true)
      × (is_none choice.window.first ≡ true) × (is_none choice.window.last ≡ true)
  each-all = parts (length choice.commands.now == 0) (length choice.processes.now == 0) (length choice.threads.now == 0)
      (length choice.events.now == 0) (is_none choice.window.first) (is_none choice.window.last) all

  thread-all : (named : Named) (sample : Result (SampleView × ℕ) RecordingError) → is_of_thread choice named sample ≡ true
  thread-all named (Ok sample) =
      rw (
        wanted-all (λ pid. pid == sample.0.pid) choice.processes.now each-all.1,
        wanted-all (λ tid. tid == sample.0.tid) choice.threads.now each-all.2,
        wanted-all (λ name. pointwise nat_eq name.now (named sample.0.tid)) choice.commands.now each-all.0,
      ) refl
  thread-all named (Err refusal) = rw (each-all.1, each-all.2, each-all.0) refl

  chosen-or-other : (b c : Bool) → c ≡ true → cond b c true ≡ true
  chosen-or-other true c is = is
  chosen-or-other false c is = refl

  record-all : (named : Named) (r : RecordView) → is_record_chosen choice attributes named r ≡ true
  unfolding is_record_chosen
  record-all named r =
      let event = number-all (event_of attributes r) choice.events.now each-all.3 in
      let time = within-all choice.window (time_of attributes r) each-all.4 each-all.5 in
      let thread = thread-all named (sample_in attributes r) in
      let sample : is_sample_chosen choice attributes named r ≡ true = rw (event, time, thread) refl in
      chosen-or-other (r.kind == PERF_RECORD_SAMPLE) (is_sample_chosen choice attributes named r) sample

  pub chosen-all : (named : Named) (records : List RecordView) → chosen_among choice attributes named records ≡ records
  chosen-all named [] = refl
  chosen-all named (r ∷ records) =
      ap (λ b. cond b (r ∷ chosen_among choice attributes (named_after r named) records) (chosen_among choice attributes (named_after r named) records))
      (record-all named r)
      ∙ ap (λ later. r ∷ later) (chosen-all (named_after r named) records)
