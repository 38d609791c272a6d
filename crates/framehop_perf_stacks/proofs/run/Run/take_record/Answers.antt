use Rattle.std.proofs.Common.{rules, ◌≡◌, ◌⊎◌, ◌≤◌, ◌+◌, ℕ, Bool, Option, Ok, IfOk, None, Some, false, refl, ap, sym, ◌∙◌, true≢false, arith, inl, inr, subst}
use Rattle.std.specs.Result.{result_err}
use Rattle.std.specs.Prelude.{◌==◌, ◌||◌, is_some}
use Rattle.framehop_recording.specs.Numbers.{PERF_RECORD_MMAP, PERF_RECORD_MMAP2, PERF_RECORD_COMM, PERF_RECORD_FORK, PERF_RECORD_LOST}
use Rattle.framehop_recording.specs.Tasks.{lost_at}
use Rattle.framehop_recording.specs.Records.{record_view}
use Rattle.framehop_perf_stacks.specs.Names.{named_in}
use Rattle.framehop_perf_stacks.specs.Processes.{mapped_in}
use Rattle.framehop_perf_stacks.specs.Run.{samples_in_kind}
use Rattle.framehop_perf_stacks.specs.Changes.{change_in}
use Rattle.framehop_perf_stacks.specs.Ended.{refusal_in, naming_refusal, drawn_by, drawn_in, IsWithoutAddress, MayEnd}
use Rattle.framehop_recording.specs.declared.error.RecordingError.{RecordingError}
use Rattle.framehop_perf_stacks.specs.declared.changes.Change.{Change}
use Rattle.framehop_perf_stacks.specs.declared.error.StacksError.{StacksError}
use Rattle.framehop_perf_stacks.specs.declared.error.StacksError.TheVariants.{EmptyMapping}
use Rattle.framehop_perf_stacks.proofs.EndedLemmas.{refused_by, ends_more, failed_as}
use Rattle.framehop_perf_stacks.proofs.StateLemmas.{drawn-none, named-kept, mapped-kept, sample-unrefused, lost-refusal, naming-refused, change-refused, change-unrefused, IsAddressed, change-addressed, not-empty}
use Rattle.framehop_perf_stacks.proofs.run.Run.take_record.Goals as goal

pub apply-requires : goal.apply-requires
apply-requires g c = (c.args.self.now.cache, c.requires.served)

pub returns-in_ok-apply-clause-served : goal.returns-in_ok-apply-clause-served
returns-in_ok-apply-clause-served g c = c.in_ok-apply.ensures.served c.args.self.now.cache c.requires.served

pub returns-then-record-eq-SAMPLE-clause-served : goal.returns-then-record-eq-SAMPLE-clause-served
returns-then-record-eq-SAMPLE-clause-served g c =
    c.in_ok-take_sample_record.ensures.served c.requires.served

pub returns-then-record-eq-SAMPLE-clause-state : goal.returns-then-record-eq-SAMPLE-clause-state
returns-then-record-eq-SAMPLE-clause-state g c =
    let r = record_view c.args.record in
    let kind : c.args.record.kind ≡ 9 = search rules in
    let maps : ((r.kind == PERF_RECORD_MMAP) || (r.kind == PERF_RECORD_MMAP2)) ≡ false = rw kind refl in
    let names : (r.kind == PERF_RECORD_COMM) ≡ false = rw kind refl in
    let forks : (r.kind == PERF_RECORD_FORK) ≡ false = rw kind refl in
    record {
      named = λ tid. ap (λ all. named_in all tid) c.in_ok-take_sample_record.ensures.names
          ∙ sym (named-kept r maps names forks (named_in c.args.self.now.names) tid);
      mapped = λ pid. c.in_ok-take_sample_record.ensures.mapped pid
          ∙ sym (mapped-kept r maps names forks c.args.input.now.files.now (mapped_in c.args.self.now.processes.by_pid) pid);
    }

pub returns-then-record-eq-SAMPLE-clause-drawn : goal.returns-then-record-eq-SAMPLE-clause-drawn
returns-then-record-eq-SAMPLE-clause-drawn g c =
    let r = record_view c.args.record in
    let kind : c.args.record.kind ≡ 9 = search rules in
    let maps : ((r.kind == PERF_RECORD_MMAP) || (r.kind == PERF_RECORD_MMAP2)) ≡ false = rw kind refl in
    let names : (r.kind == PERF_RECORD_COMM) ≡ false = rw kind refl in
    let forks : (r.kind == PERF_RECORD_FORK) ≡ false = rw kind refl in
    let two = drawn-none r maps names forks c.args.input.now.files.now (mapped_in c.args.self.now.processes.by_pid) in
    let drawn = c.in_ok-take_sample_record.ensures.drawn in
    omega (arith, two, drawn)

pub returns-in_err-take_sample_record-clause-refused : goal.returns-in_err-take_sample_record-clause-refused
returns-in_err-take_sample_record-clause-refused g c = λ samples counted.
    let r = record_view c.args.record in
    let kind : c.args.record.kind ≡ 9 = search rules in
    let maps : ((r.kind == PERF_RECORD_MMAP) || (r.kind == PERF_RECORD_MMAP2)) ≡ false = rw kind refl in
    let names : (r.kind == PERF_RECORD_COMM) ≡ false = rw kind refl in
    let forks : (r.kind == PERF_RECORD_FORK) ≡ false = rw kind refl in
    let two = drawn-none r maps names forks c.args.input.now.files.now (mapped_in c.args.self.now.processes.by_pid) in
    let one : samples_in_kind c.args.record.kind ≡ 1 = rw kind refl in
    failed_as c.from_residual-in_err-take_sample_record.result _ _ c.from_residual-in_err-take_sample_record.ensures.1
    (ends_more _ _ None (refusal_in r) (c.args.self.now.processes.generations + 2)
    (c.args.self.now.processes.generations + drawn_in (change_in c.args.input.now.files.now r) (mapped_in c.args.self.now.processes.by_pid))
    (samples + 1) (samples + samples_in_kind c.args.record.kind) c.in_err-take_sample_record.field-0.0
    (λ writes. writes) (λ refusal none. absurd (true≢false (sym (ap is_some none)))) (omega (arith, two)) (omega (arith, one))
    (c.in_err-take_sample_record.ensures.refused samples counted))

pub returns-then-record-eq-SAMPLE-clause-sample : goal.returns-then-record-eq-SAMPLE-clause-sample
returns-then-record-eq-SAMPLE-clause-sample g c = λ kind.
    let told = c.in_ok-take_sample_record.ensures.told c.requires.served in
    (told.0, (c.in_ok-body.body.now, c.in_ok-body.ensures, told.1), told.2)

pub returns-then-record-eq-LOST-clause-state : goal.returns-then-record-eq-LOST-clause-state
returns-then-record-eq-LOST-clause-state g c =
    let r = record_view c.args.record in
    let kind : c.args.record.kind ≡ 2 = search rules in
    let maps : ((r.kind == PERF_RECORD_MMAP) || (r.kind == PERF_RECORD_MMAP2)) ≡ false = rw kind refl in
    let names : (r.kind == PERF_RECORD_COMM) ≡ false = rw kind refl in
    let forks : (r.kind == PERF_RECORD_FORK) ≡ false = rw kind refl in
    record {
      named = λ tid. ap (λ all. named_in all tid) c.in_ok-lose.ensures.names
          ∙ sym (named-kept r maps names forks (named_in c.args.self.now.names) tid);
      mapped = λ pid. ap (λ all. mapped_in all.by_pid pid) c.in_ok-lose.ensures.processes
          ∙ sym (mapped-kept r maps names forks c.args.input.now.files.now (mapped_in c.args.self.now.processes.by_pid) pid);
    }

pub returns-then-record-eq-SAMPLE-clause-read : goal.returns-then-record-eq-SAMPLE-clause-read
returns-then-record-eq-SAMPLE-clause-read g c =
    let kind : c.args.record.kind ≡ 9 = search rules in
    sample-unrefused (record_view c.args.record) kind

pub returns-in_err-lose-clause-refused : goal.returns-in_err-lose-clause-refused
returns-in_err-lose-clause-refused g c = λ samples counted.
    let r = record_view c.args.record in
    let kind : c.args.record.kind ≡ 2 = search rules in
    failed_as c.from_residual-in_err-lose.result _ _ c.from_residual-in_err-lose.ensures.1
    (ends_more false _ (result_err (lost_at r)) (refusal_in r) 0 _ 0 _ c.in_err-lose.field-0.0
    (λ writes. absurd (true≢false (sym writes))) (λ refusal is. lost-refusal r kind ∙ is) (omega arith) (omega arith) c.in_err-lose.ensures.refused)

pub returns-then-record-eq-LOST-clause-read : goal.returns-then-record-eq-LOST-clause-read
returns-then-record-eq-LOST-clause-read g c =
    let kind : c.args.record.kind ≡ 2 = search rules in
    lost-refusal (record_view c.args.record) kind ∙ c.in_ok-lose.ensures.read

pub returns-in_err-note-clause-refused : goal.returns-in_err-note-clause-refused
returns-in_err-note-clause-refused g c = λ samples counted.
    let r = record_view c.args.record in
    let other : (r.kind == PERF_RECORD_LOST) ≡ false = search rules in
    failed_as c.from_residual-in_err-note.result _ _ c.from_residual-in_err-note.ensures.1
    (ends_more false _ (naming_refusal r) (refusal_in r) 0 _ 0 _ c.in_err-note.field-0.0
    (λ writes. absurd (true≢false (sym writes))) (λ refusal is. naming-refused r refusal other is) (omega arith) (omega arith) c.in_err-note.ensures.refused)

pub returns-in_err-change-clause-refused : goal.returns-in_err-change-clause-refused
returns-in_err-change-clause-refused g c = λ samples counted.
    let r = record_view c.args.record in
    let other : (r.kind == PERF_RECORD_LOST) ≡ false = search rules in
    failed_as c.from_residual-in_err-change.result _ _ c.from_residual-in_err-change.ensures.1
    (refused_by _ (refusal_in r) _ _ c.in_err-change.field-0.0
    (change-refused r c.args.input.now.files.now c.in_err-change.field-0.0 other (sym c.in_err-change.ensures.exact)))

apply-ends : (failed : Bool) (refusal : Option RecordingError) (drawn drawn' samples : ℕ) (change : Change) (error : StacksError)
    → drawn ≤ drawn' → (IsWithoutAddress change → ⊥) → MayEnd false None drawn 0 error ⊎ ((error ≡ EmptyMapping) × IsWithoutAddress change)
    → MayEnd failed refusal drawn' samples error
apply-ends failed refusal drawn drawn' samples change error more addressed (inl ends) =
    ends_more false failed None refusal drawn drawn' 0 samples error (λ writes. absurd (true≢false (sym writes)))
    (λ e none. absurd (true≢false (sym (ap is_some none)))) more (omega arith) ends
apply-ends failed refusal drawn drawn' samples change error more addressed (inr without) = absurd (addressed without.1)

pub returns-in_err-apply-clause-refused : goal.returns-in_err-apply-clause-refused
returns-in_err-apply-clause-refused g c = λ samples counted.
    let r = record_view c.args.record in
    let files = c.args.input.now.files.now in
    let change = c.in-Some.change in
    let mapped = mapped_in c.args.self.now.processes.by_pid in
    let is : change_in files r ≡ Ok (Some change) = sym c.in_ok-change.ensures.exact ∙ ap (λ read. Ok read) c.in-Some.is in
    let drawn : drawn_in (change_in files r) mapped ≡ drawn_by change mapped = ap (λ read. drawn_in read mapped) is in
    let addressed : IsAddressed (Some change) = subst (λ read. IfOk read IsAddressed) is (change-addressed files r) in
    failed_as c.from_residual-in_err-apply.result _ _ c.from_residual-in_err-apply.ensures.1
    (apply-ends _ (refusal_in r) (c.args.self.now.processes.generations + drawn_by change mapped)
    (c.args.self.now.processes.generations + drawn_in (change_in files r) mapped) _ change c.in_err-apply.field-0.0
    (omega (arith, drawn)) (not-empty change addressed) c.in_err-apply.ensures.refused)

pub returns-in_ok-apply-clause-read : goal.returns-in_ok-apply-clause-read
returns-in_ok-apply-clause-read g c =
    let r = record_view c.args.record in
    let other : (r.kind == PERF_RECORD_LOST) ≡ false = search rules in
    let is : change_in c.args.input.now.files.now r ≡ Ok (Some c.in-Some.change) = sym c.in_ok-change.ensures.exact ∙ ap (λ read. Ok read) c.in-Some.is in
    change-unrefused r c.args.input.now.files.now (Some c.in-Some.change) other is

pub returns-in_default-clause-read : goal.returns-in_default-clause-read
returns-in_default-clause-read g c =
    let r = record_view c.args.record in
    let other : (r.kind == PERF_RECORD_LOST) ≡ false = search rules in
    let is : change_in c.args.input.now.files.now r ≡ Ok None = sym c.in_ok-change.ensures.exact ∙ ap (λ read. Ok read) c.in_default.is in
    change-unrefused r c.args.input.now.files.now None other is

pub returns-in_err-take_sample_record-clause-lost_before : goal.returns-in_err-take_sample_record-clause-lost_before
returns-in_err-take_sample_record-clause-lost_before g c = λ refusal is.
    let kind : c.args.record.kind ≡ 9 = search rules in
    absurd (true≢false (sym (ap is_some is) ∙ ap is_some (sample-unrefused (record_view c.args.record) kind)))

pub returns-then-record-eq-SAMPLE-clause-lost_before : goal.returns-then-record-eq-SAMPLE-clause-lost_before
returns-then-record-eq-SAMPLE-clause-lost_before g c = λ refusal is.
    let kind : c.args.record.kind ≡ 9 = search rules in
    absurd (true≢false (sym (ap is_some is) ∙ ap is_some (sample-unrefused (record_view c.args.record) kind)))

pub returns-then-record-eq-SAMPLE-clause-lost : goal.returns-then-record-eq-SAMPLE-clause-lost
returns-then-record-eq-SAMPLE-clause-lost g c =
    let r = record_view c.args.record in
    let kind : c.args.record.kind ≡ 9 = search rules in
    let other : (r.kind == PERF_RECORD_LOST) ≡ false = rw kind refl in
    let told = c.in_ok-take_sample_record.ensures.told c.requires.served in
    rw other told.2.0.lost

pub returns-then-record-eq-LOST-clause-lost_before : goal.returns-then-record-eq-LOST-clause-lost_before
returns-then-record-eq-LOST-clause-lost_before g c = λ refusal is.
    let kind : c.args.record.kind ≡ 2 = search rules in
    absurd (true≢false (sym (ap is_some is) ∙ ap is_some (lost-refusal (record_view c.args.record) kind ∙ c.in_ok-lose.ensures.read)))
