-- What was told of a recording so far, from record to record.
use Rattle.std.proofs.Common.{eqb-true, ◌≡◌, ◌≢◌, ℕ, ◌+◌, ◌<◌, Bool, true, false, cond, List, [], ◌∷◌, ◌++◌, take, drop, get_or, length, Option, ◌≤◌, Some, None, refl, ap, sym, ◌∙◌, subst, append_assoc, append-nil, arith}
use Rattle.std.specs.Prelude.{◌==◌}
use Rattle.std.specs.BTreeMap.{BTreeMap}
use Rattle.std.proofs.lemmas.Bool.{eqb-false}
use Rattle.std.proofs.lemmas.List.{at_drop_more, take_more}
use Rattle.std.proofs.lemmas.List.Sums.{sum_by_push, sum_by_more_le}
use Rattle.std.specs.List.{count_by}
use Rattle.framehop_perf_stacks.specs.Run.{is_sample, samples_in_kind}
use Rattle.framehop_perf_stacks.specs.declared.processes.MappedProcess.{MappedProcess}
use Rattle.framehop_recording.specs.Numbers.{PERF_RECORD_SAMPLE}
use Rattle.framehop_recording.specs.declared.error.RecordingError.{RecordingError}
use Rattle.framehop_perf_stacks.specs.Changes.{change_in}
use Rattle.framehop_perf_stacks.specs.Ended.{refusal_in, first_refusal, before_refusal, drawn_in}
use Rattle.framehop_recording.specs.Records.{RecordView, record_view}
use Rattle.framehop_recording.specs.declared.order.TimedRecord.{TimedRecord}
use Rattle.framehop_perf_stacks.specs.Counts.{HasSameSamples}
use Rattle.framehop_perf_stacks.specs.declared.counts.Counts.{Counts}
use Rattle.framehop_perf_stacks.specs.Names.{named_in}
use Rattle.framehop_perf_stacks.specs.Processes.{mapped_in}
use Rattle.framehop_perf_stacks.specs.Recording.{records_in}
use Rattle.framehop_perf_stacks.specs.Samples.{State, state_in, state_after, state_over, drawn_over, Agrees, samples_from, Told, Each, IsTaken, AreTaken, lost_after, lost_over}
use Rattle.framehop_processes.specs.declared.files.Files.{Files}
use Rattle.framehop_perf_stacks.specs.declared.names.Names.{Names}
use Rattle.framehop_perf_stacks.proofs.EndedLemmas.{refused-first, none-before, taken-first, refused-after}
use Rattle.framehop_perf_stacks.proofs.StateLemmas.{named-same, mapped-same, drawn-same}
use Rattle.framehop_perf_stacks.proofs.TakenLemmas.{Each-more, AreTaken-more, AreTaken-same}

-- Of all records from a state on some are left. The state there agrees with the names and the processes, and the samples
-- before it have their texts, which were taken. None of the records before it is refused, and so many generations were drawn.
pub record IsSoFar (files : Files) (IsText : RecordView × State → Told → Type 0) (frames : Bool) (all : List RecordView)
    (first : State) (old : Counts) (before : Option (List ℕ)) (undrawn : ℕ) (rest : List RecordView) (names : Names)
    (processes : BTreeMap ℕ MappedProcess) (new : Counts) (after : Option (List ℕ)) (drawn : ℕ) : Type 0 where
  pub state : State
  pub told : List (RecordView × State)
  pub texts : List Told
  pub agrees : Agrees names processes state
  pub leads : state_over files rest state ≡ state_over files all first
  pub samples : told ++ samples_from files state rest ≡ samples_from files first all
  pub samples_before : told ++ samples_from files state (before_refusal rest) ≡ samples_from files first (before_refusal all)
  pub unrefused : first_refusal rest ≡ first_refusal all
  pub draws : drawn + drawn_over files rest state ≤ undrawn + drawn_over files all first
  pub loses : lost_over (before_refusal rest) new.lost ≡ lost_over (before_refusal all) old.lost
  pub each : Each IsText told texts
  pub taken : AreTaken frames texts old new before after

module _ (files : Files) (IsText : RecordView × State → Told → Type 0)
    (same_text : (r : RecordView) (state other : State) → ((tid : ℕ) → state.named tid ≡ other.named tid)
    → ((pid : ℕ) → state.mapped pid ≡ other.mapped pid) → (text : Told) → IsText (r, state) text → IsText (r, other) text)
    (frames : Bool) (all : List RecordView) (first : State) (old : Counts) (before : Option (List ℕ)) (undrawn : ℕ)
    (r : RecordView) (rest : List RecordView) (names names' : Names) (processes processes' : BTreeMap ℕ MappedProcess)
    (new new' : Counts) (after after' : Option (List ℕ)) (drawn drawn' : ℕ)
    (so : IsSoFar files IsText frames all first old before undrawn (r ∷ rest) names processes new after drawn)
    (none_refused : refusal_in r ≡ None) (draws : drawn' ≤ drawn + drawn_in (change_in files r) (mapped_in processes))
    (agrees : Agrees names' processes' (state_after files r (state_in names processes)))
    (sample : r.kind ≡ PERF_RECORD_SAMPLE → (text : Told) × IsText (r, state_in names processes) text × IsTaken frames text new new' after after')
    (other : r.kind ≢ PERF_RECORD_SAMPLE → HasSameSamples new new' × (after' ≡ after))
    (lost : new'.lost ≡ lost_after r new.lost) where
  agrees-on : Agrees names' processes' (state_after files r so.state)
  agrees-on = record {
    named = λ tid. agrees.named tid ∙ named-same (named_in names) so.state.named so.agrees.named r tid;
    mapped = λ pid. agrees.mapped pid ∙ mapped-same (mapped_in processes) so.state.mapped so.agrees.mapped files r pid;
  }

  unrefused-on : first_refusal rest ≡ first_refusal all
  unrefused-on = sym (refused-after r rest none_refused) ∙ so.unrefused

  draws-on : drawn' + drawn_over files rest (state_after files r so.state) ≤ undrawn + drawn_over files all first
  draws-on = omega (arith, draws, so.draws, drawn-same (mapped_in processes) so.state.mapped so.agrees.mapped files r)

  before-on : so.told ++ samples_from files so.state (r ∷ before_refusal rest) ≡ samples_from files first (before_refusal all)
  before-on = ap (λ records. so.told ++ samples_from files so.state records) (sym (taken-first r rest none_refused)) ∙ so.samples_before

  loses-on : lost_over (before_refusal rest) new'.lost ≡ lost_over (before_refusal all) old.lost
  loses-on =
      ap (lost_over (before_refusal rest)) lost
      ∙ ap (λ records. lost_over records new.lost) (sym (taken-first r rest none_refused)) ∙ so.loses

  step-by : (b : Bool) → (r.kind == PERF_RECORD_SAMPLE) ≡ b → IsSoFar files IsText frames all first old before undrawn rest names' processes' new' after' drawn'
  step-by true is =
      let one = sample (eqb-true r.kind PERF_RECORD_SAMPLE is) in
      let next = samples_from files (state_after files r so.state) rest in
      let here : so.told ++ (r, so.state) ∷ next ≡ samples_from files first all =
      ap (λ b. so.told ++ cond b ((r, so.state) ∷ next) next) (sym is) ∙ so.samples in
      let next-before = samples_from files (state_after files r so.state) (before_refusal rest) in
      let here-before : so.told ++ (r, so.state) ∷ next-before ≡ samples_from files first (before_refusal all) =
      ap (λ b. so.told ++ cond b ((r, so.state) ∷ next-before) next-before) (sym is) ∙ before-on in
      record {
        state = state_after files r so.state;
        told = so.told ++ (r, so.state) ∷ [];
        texts = so.texts ++ one.0 ∷ [];
        agrees = agrees-on;
        leads = so.leads;
        samples = append_assoc so.told ((r, so.state) ∷ []) next ∙ here;
        samples_before = append_assoc so.told ((r, so.state) ∷ []) next-before ∙ here-before;
        unrefused = unrefused-on;
        draws = draws-on;
        loses = loses-on;
        each = Each-more IsText so.told so.texts (r, so.state) one.0 so.each
            (same_text r (state_in names processes) so.state so.agrees.named so.agrees.mapped one.0 one.1);
        taken = AreTaken-more frames so.texts one.0 old new new' before after after' so.taken one.2;
      }
  step-by false is =
      let none = other (eqb-false r.kind PERF_RECORD_SAMPLE is) in
      let next = samples_from files (state_after files r so.state) rest in
      let next-before = samples_from files (state_after files r so.state) (before_refusal rest) in
      record {
        state = state_after files r so.state;
        told = so.told;
        texts = so.texts;
        agrees = agrees-on;
        leads = so.leads;
        samples = ap (λ b. so.told ++ cond b ((r, so.state) ∷ next) next) (sym is) ∙ so.samples;
        samples_before = ap (λ b. so.told ++ cond b ((r, so.state) ∷ next-before) next-before) (sym is) ∙ before-on;
        unrefused = unrefused-on;
        draws = draws-on;
        loses = loses-on;
        each = so.each;
        taken = AreTaken-same frames so.texts old new new' before after after' so.taken none.0 none.1;
      }

  pub step : IsSoFar files IsText frames all first old before undrawn rest names' processes' new' after' drawn'
  step = step-by (r.kind == PERF_RECORD_SAMPLE) refl

-- where the next record is refused, what was told is of the samples before it
module _ (files : Files) (IsText : RecordView × State → Told → Type 0) (frames : Bool) (all : List RecordView)
    (first : State) (old : Counts) (before : Option (List ℕ)) (undrawn : ℕ) (r : RecordView) (rest : List RecordView) (names : Names)
    (processes : BTreeMap ℕ MappedProcess) (new : Counts) (after : Option (List ℕ)) (drawn : ℕ)
    (so : IsSoFar files IsText frames all first old before undrawn (r ∷ rest) names processes new after drawn) where
  pub told-before : (refusal : RecordingError) → refusal_in r ≡ Some refusal → so.told ≡ samples_from files first (before_refusal all)
  told-before refusal is =
      sym (append-nil so.told) ∙ ap (λ records. so.told ++ samples_from files so.state records) (sym (none-before r rest refusal is))
      ∙ so.samples_before

  pub loses-before : (refusal : RecordingError) → refusal_in r ≡ Some refusal → new.lost ≡ lost_over (before_refusal all) old.lost
  loses-before refusal is = ap (λ records. lost_over records new.lost) (sym (none-before r rest refusal is)) ∙ so.loses

  pub refused-here : (refusal : RecordingError) → refusal_in r ≡ Some refusal → first_refusal all ≡ Some refusal
  refused-here refusal is = sym so.unrefused ∙ refused-first r rest refusal is

  pub draws-here : drawn + drawn_in (change_in files r) (mapped_in processes) ≤ undrawn + drawn_over files all first
  draws-here = omega (arith, so.draws, drawn-same (mapped_in processes) so.state.mapped so.agrees.mapped files r)

-- the records that are left at a place, and how many samples there are up to the next
module _ (items records : List TimedRecord) (same : items ≡ records) (i : ℕ) (d : TimedRecord) (within : i < length items) where
  pub records-left : records_in (drop i records) ≡ record_view (get_or items i d).«record» ∷ records_in (drop (i + 1) records)
  records-left =
      subst (λ list. records_in (drop i list) ≡ record_view (get_or items i d).«record» ∷ records_in (drop (i + 1) list)) same
      (at_drop_more records_in items i d within)

  pub samples-within : count_by is_sample (take i records) + samples_in_kind (get_or items i d).«record».kind ≤ count_by is_sample records
  samples-within =
      subst (λ list. count_by is_sample (take i list) + samples_in_kind (get_or items i d).«record».kind ≤ count_by is_sample list) same
      (sum_by_more_le (λ timed. cond (is_sample timed) 1 0) items i d within)

  pub samples-next : count_by is_sample (take i records) + samples_in_kind (get_or items i d).«record».kind ≡ count_by is_sample (take (i + 1) records)
  samples-next =
      subst (λ list. count_by is_sample (take i list) + samples_in_kind (get_or items i d).«record».kind ≡ count_by is_sample (take (i + 1) list)) same
      (sym (ap (count_by is_sample) (take_more items i d within) ∙ sum_by_push (λ timed. cond (is_sample timed) 1 0) (take i items) (get_or items i d)))
