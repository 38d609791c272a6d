-- The mappings that are there at samples.
use Rattle.std.proofs.Common.{◌≡◌, ℕ, ◌+◌, ◌<◌, Bool, List, [], ◌∷◌, ◌++◌, map, reverse, drop, length, get_or, Option, Some, None, Result, Ok, Err, refl, ap, sym, cond, not, ◌&&◌, ◌||◌, ◌∙◌}
use Rattle.std.specs.Prelude.{◌==◌, option_to_list}
use Rattle.std.proofs.lemmas.List.{at_drop_more, reverse-append}
use mathlib.Core.List.{reverse_aux}
use Rattle.framehop_recording.specs.Attributes.{AttributeView}
use Rattle.framehop_recording.specs.Mapping.{MappingView}
use Rattle.framehop_recording.specs.Numbers.{PERF_RECORD_FORK}
use Rattle.framehop_recording.specs.Records.{RecordView, record_view}
use Rattle.framehop_recording.specs.Tasks.{task_at}
use Rattle.framehop_recording.specs.declared.error.RecordingError.{RecordingError}
use Rattle.framehop_recording.specs.declared.order.TimedRecord.{TimedRecord}
use Rattle.framehop_recording.specs.declared.tasks.Task.{Task}
use Rattle.framehop_perf_stacks.specs.Changes.{code_mapping_in}
use Rattle.framehop_perf_stacks.specs.Recording.{sample_in, records_in}
use Rattle.framehop_perf_stacks.specs.Sampled.{forked_by, process_in, sampled_by, with_added, begun_in, without, is_sampled, is_sampled_with, of_process, sampled_mappings}

module _ (is_one other : ℕ → Bool) (same : (pid : ℕ) → is_one pid ≡ other pid) where
  -- a mapping is of the same processes, however these are told
  same-process : (mapping : Option MappingView) → of_process is_one mapping ≡ of_process other mapping
  same-process (Some m) = ap (λ b. cond b (Some m) None) (same m.pid)
  same-process None = refl

  forked-same : (task : Result Task RecordingError) → forked_by task is_one ≡ forked_by task other
  forked-same (Ok task) = ap (λ b. cond (not task.is_made_up && b) (Some task.parent_pid) None) (same task.pid)
  forked-same (Err refusal) = refl

  process-same : (attributes : List AttributeView) (r : RecordView) → process_in attributes r is_one ≡ process_in attributes r other
  process-same attributes r =
      ap (λ forked. cond (r.kind == PERF_RECORD_FORK) forked (sampled_by (sample_in attributes r))) (forked-same (task_at r))

  added-same : (added : Option ℕ) (pid : ℕ) → with_added added is_one pid ≡ with_added added other pid
  added-same (Some added) pid = ap (λ b. (pid == added) || b) (same pid)
  added-same None pid = same pid

  without-same : (begun : Option ℕ) (pid : ℕ) → without begun is_one pid ≡ without begun other pid
  without-same (Some begun) pid = ap (λ b. not (pid == begun) && b) (same pid)
  without-same None pid = same pid

-- with a record before others there are those that it adds to theirs, without the one that it begins
sampled-more : (attributes : List AttributeView) (r : RecordView) (records : List RecordView) (is_one : ℕ → Bool)
    → ((pid : ℕ) → is_one pid ≡ is_sampled attributes records pid) → (pid : ℕ)
    → is_sampled_with attributes r is_one pid ≡ is_sampled attributes (r ∷ records) pid
sampled-more attributes r records is_one same pid =
    let later = is_sampled attributes records in
    let begun = begun_in r in
    ap (λ added. with_added added (without begun is_one) pid) (process-same is_one later same attributes r)
    ∙ added-same (without begun is_one) (without begun later) (without-same is_one later same begun) (process_in attributes r later) pid

module _ (attributes : List AttributeView) (records : List TimedRecord) (left next : ℕ) (d : TimedRecord)
    (within : left < length records) (one : left + 1 ≡ next) where
  abbrev here : RecordView
  here = record_view (get_or records left d).«record»

  here-left : here ∷ records_in (drop next records) ≡ records_in (drop left records)
  here-left = ap (λ n. here ∷ records_in (drop n records)) (sym one) ∙ sym (at_drop_more records_in records left d within)

  module _ (is_one : ℕ → Bool) (same : (pid : ℕ) → is_one pid ≡ is_sampled attributes (records_in (drop next records)) pid) where
    -- the same of the record at a place of a list, and of those after it
    pub sampled-left : (pid : ℕ) → is_sampled_with attributes here is_one pid ≡ is_sampled attributes (records_in (drop left records)) pid
    sampled-left pid =
        sampled-more attributes here (records_in (drop next records)) is_one same pid ∙ ap (λ list. is_sampled attributes list pid) here-left

    one-back : (mapping : Option MappingView) → reverse (option_to_list mapping) ≡ option_to_list mapping
    one-back (Some m) = refl
    one-back None = refl

    -- and of its mapping, where those after it were taken from the last on
    pub mappings-left : (before after : List MappingView) (mapping : Option MappingView)
        → mapping ≡ of_process is_one (code_mapping_in here) → after ≡ before ++ option_to_list mapping
        → reverse before ≡ sampled_mappings attributes (records_in (drop next records))
        → reverse after ≡ sampled_mappings attributes (records_in (drop left records))
    mappings-left before after mapping is more taken =
        let later = records_in (drop next records) in
        ap reverse more ∙ reverse-append before (option_to_list mapping)
        ∙ ap (λ first. first ++ reverse before) (one-back mapping)
        ∙ ap (λ rest. option_to_list mapping ++ rest) taken
        ∙ ap (λ first. option_to_list first ++ sampled_mappings attributes later)
        (is ∙ same-process is_one (is_sampled attributes later) same (code_mapping_in here))
        ∙ ap (sampled_mappings attributes) here-left

reverse_aux-map : {A B : Type 0} (f : A → B) (xs ys : List A) → reverse_aux (map f xs) (map f ys) ≡ map f (reverse_aux xs ys)
reverse_aux-map f [] ys = refl
reverse_aux-map f (x ∷ xs) ys = reverse_aux-map f xs (x ∷ ys)

pub reverse-map : {A B : Type 0} (f : A → B) (xs : List A) → reverse (map f xs) ≡ map f (reverse xs)
reverse-map f xs = reverse_aux-map f xs []
