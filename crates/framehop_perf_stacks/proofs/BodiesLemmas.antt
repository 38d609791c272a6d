-- What is told of samples whose bodies are given is told of records that have these bodies.
use Rattle.std.proofs.Common.{eqb-true, ◌≡◌, ℕ, Bool, true, false, cond, List, [], ◌∷◌, refl, ap, sym, ◌∙◌, subst}
use Rattle.std.specs.Prelude.{◌==◌, ◌||◌}
use Rattle.std.proofs.lemmas.Bool.{eqb-false}
use Rattle.framehop_recording.specs.Numbers.{PERF_RECORD_SAMPLE, PERF_RECORD_MMAP, PERF_RECORD_MMAP2, PERF_RECORD_COMM, PERF_RECORD_FORK, PERF_RECORD_LOST}
use Rattle.framehop_recording.specs.Records.{RecordView}
use Rattle.framehop_processes.specs.declared.files.Files.{Files}
use Rattle.framehop_perf_stacks.specs.Bodies.{with_body, own_body, IsCompleted}
use Rattle.framehop_perf_stacks.specs.Changes.{change_in}
use Rattle.framehop_perf_stacks.specs.Names.{Named}
use Rattle.framehop_perf_stacks.specs.Samples.{State, mapped_by, state_after, samples_from, Told, Each, lost_after, lost_over}
use Rattle.framehop_perf_stacks.proofs.StateLemmas.{named-unchanged, change-none}

-- ---- a sample leaves names, mappings and lost records as they are

module _ (r : RecordView) (kind : r.kind ≡ PERF_RECORD_SAMPLE) where
  state-unchanged : (files : Files) (state : State) → state_after files r state ≡ state
  state-unchanged files state =
      let maps : ((r.kind == PERF_RECORD_MMAP) || (r.kind == PERF_RECORD_MMAP2)) ≡ false = rw kind refl in
      let names : (r.kind == PERF_RECORD_COMM) ≡ false = rw kind refl in
      let forks : (r.kind == PERF_RECORD_FORK) ≡ false = rw kind refl in
      let made : Named → State = λ named. record { named = named; mapped = mapped_by (change_in files r) state.mapped } in
      ap made (named-unchanged r maps names forks state.named)
      ∙ ap (λ change. record { named = state.named; mapped = mapped_by change state.mapped }) (change-none r maps names forks files)

  lost-unchanged : (lost : ℕ) → lost_after r lost ≡ lost
  lost-unchanged lost = let other : (r.kind == PERF_RECORD_LOST) ≡ false = rw kind refl in rw other refl

state-kept : (r : RecordView) (body : List ℕ) → r.kind ≡ PERF_RECORD_SAMPLE → (files : Files) (state : State)
    → state_after files (with_body r body) state ≡ state_after files r state
state-kept r body kind files state =
    state-unchanged (with_body r body) kind files state ∙ sym (state-unchanged r kind files state)

-- ---- one record after another

module _ (gives : RecordView → List ℕ → Type 0) (files : Files) (IsText : RecordView × State → Told → Type 0) where
  -- a text of a record with a body that is given for it
  abbrev pub IsTextWith : RecordView × State → Told → Type 0
  IsTextWith at text = (body : List ℕ) × gives at.0 body × IsText (with_body at.0 body, at.1) text

  -- texts of records that have bodies which are given
  abbrev pub AreTexts : List RecordView → State → List Told → Type 0
  AreTexts records state texts =
      (whole : List RecordView) × Each (IsCompleted gives) records whole × Each IsText (samples_from files state whole) texts
      × ((lost : ℕ) → lost_over whole lost ≡ lost_over records lost)

  module _ (r : RecordView) (rest : List RecordView) (state : State) where
    abbrev after : State
    after = state_after files r state

    first-completed : (texts : List Told)
        → ((texts' : List Told) → Each IsTextWith (samples_from files after rest) texts' → AreTexts rest after texts')
        → (b : Bool) → (r.kind == PERF_RECORD_SAMPLE) ≡ b
        → Each IsTextWith (cond b ((r, state) ∷ samples_from files after rest) (samples_from files after rest)) texts
        → AreTexts (r ∷ rest) state texts
    first-completed [] later true is each = absurd each
    first-completed (text ∷ texts) later true is each =
        let kind : r.kind ≡ PERF_RECORD_SAMPLE = eqb-true r.kind PERF_RECORD_SAMPLE is in
        let body = each.0.0 in
        let whole = with_body r body in
        let next = later texts each.1 in (
          whole ∷ next.0,
          (record { sample = λ _. (body, each.0.1, refl); other = λ not. absurd (not kind) }, next.1),
          subst (λ b. Each IsText (cond b ((whole, state) ∷ samples_from files (state_after files whole state) next.0)
              (samples_from files (state_after files whole state) next.0)) (text ∷ texts)) (sym is)
              (each.0.2, subst (λ s. Each IsText (samples_from files s next.0) texts) (sym (state-kept r body kind files state)) next.2),
          λ lost. next.3 (lost_after whole lost)
              ∙ ap (lost_over rest) (lost-unchanged whole kind lost ∙ sym (lost-unchanged r kind lost)),
        )
    first-completed texts later false is each =
        let other = eqb-false r.kind PERF_RECORD_SAMPLE is in
        let next = later texts each in (
          r ∷ next.0,
          (record { sample = λ kind. absurd (other kind); other = λ _. refl }, next.1),
          subst (λ b. Each IsText (cond b ((r, state) ∷ samples_from files after next.0) (samples_from files after next.0)) texts)
              (sym is) next.2,
          λ lost. next.3 (lost_after r lost),
        )

  pub completed : (records : List RecordView) (state : State) (texts : List Told)
      → Each IsTextWith (samples_from files state records) texts → AreTexts records state texts
  completed [] state texts each = ([], tt, each, λ lost. refl)
  completed (r ∷ rest) state texts each =
      first-completed r rest state texts (completed rest (state_after files r state)) (r.kind == PERF_RECORD_SAMPLE) refl each

-- ---- the bodies of a recording in memory

own-one : (r whole : RecordView) → IsCompleted own_body r whole → (b : Bool) → (r.kind == PERF_RECORD_SAMPLE) ≡ b → whole ≡ r
own-one r whole is true sample =
    let given = is.sample (eqb-true r.kind PERF_RECORD_SAMPLE sample) in
    given.2 ∙ ap (with_body r) given.1
own-one r whole is false other = is.other (eqb-false r.kind PERF_RECORD_SAMPLE other)

-- records that have their own bodies are as they are
pub own : (records whole : List RecordView) → Each (IsCompleted own_body) records whole → whole ≡ records
own [] [] each = refl
own [] (w ∷ ws) each = absurd each
own (r ∷ rs) [] each = absurd each
own (r ∷ rs) (w ∷ ws) each =
    ap (λ first. first ∷ ws) (own-one r w each.0 (r.kind == PERF_RECORD_SAMPLE) refl) ∙ ap (λ list. r ∷ list) (own rs ws each.1)
