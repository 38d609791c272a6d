use Rattle.std.proofs.Common.{◌≡◌, ◌+◌, ◌<◌, ◌++◌, [], map, take, drop, length, Result, Ok, Err, IsErrAnd, refl, ap, sym, ◌∙◌, subst, append-nil, true≢false, arith}
use Rattle.std.specs.Prelude.{is_some}
use Rattle.std.specs.List.{count_by}
use Rattle.std.proofs.Math.Bool.{or-false}
use Rattle.std.proofs.lemmas.List.{at_drop_all}
use Rattle.framehop_output.specs.Output.{OutputView}
use Rattle.framehop_recording.specs.Attributes.{attribute_view}
use Rattle.framehop_perf_stacks.specs.Bodies.{with_body}
use Rattle.framehop_perf_stacks.specs.Ended.{first_refusal, before_refusal, MayEnd}
use Rattle.framehop_recording.specs.declared.error.RecordingError.{RecordingError}
use Rattle.framehop_perf_stacks.specs.declared.error.StacksError.{StacksError}
use Rattle.framehop_perf_stacks.specs.declared.error.StacksError.TheVariants.{Recording as Refused}
use Rattle.framehop_perf_stacks.specs.Recording.{records_in, sample_in}
use Rattle.framehop_perf_stacks.specs.Run.{AreCounted, is_sample}
use Rattle.framehop_perf_stacks.specs.Samples.{state_in, state_over, samples_from, Agrees, Each, IsToldWith, lost_over}
use Rattle.framehop_perf_stacks.proofs.EndedLemmas.{all-before, ends_more, failed_as, same_error}
use Rattle.framehop_perf_stacks.proofs.SoFarLemmas.{IsSoFar, step, told-before, loses-before, refused-here, draws-here, samples-within, records-left, samples-next}
use Rattle.framehop_perf_stacks.proofs.StateLemmas.{text-same, sample-unrefused}
use Rattle.framehop_perf_stacks.proofs.TakenLemmas.{AreTaken-none, AreTaken-same}
use Rattle.framehop_perf_stacks.proofs.run.Run.take_records.Goals as goal

pub loop-timed-init : goal.loop-timed-init
loop-timed-init g c = (
  c.requires.served,
  c.requires.none,
  λ first agrees. record {
    state = first;
    told = [];
    texts = [];
    agrees = agrees;
    leads = refl;
    samples = refl;
    samples_before = refl;
    unrefused = refl;
    draws = omega arith;
    loses = refl;
    each = tt;
    taken = AreTaken-none c.args.input.now.options.frames c.args.self.now.counts c.args.out.now.bytes;
  },
  refl,
)

pub loop-timed-preserved : goal.loop-timed-preserved
loop-timed-preserved g c =
    let l = c.loop-timed in
    let records = c.args.input.now.recording.now.records.items in
    let attributes = map attribute_view c.args.input.now.recording.now.events.attributes.items in
    let module_of = g.M.ModuleMaker.module_of c.args.input.now.maker.now in
    let gives = g.B.SampleSource.gives c.args.input.now.samples.now in
    let text = text-same module_of g.U.Steps.walker g.U.Steps.is_note g.U.Sampled.starts c.args.input.now.options c.args.input.now.files.now in
    let after = c.in_ok-take_record.ensures in
    let items = c.deref-timed-items.result.now in
    let same = c.deref-timed-items.ensures.value in
    let within : l.timed-index < length items = omega arith in
    let before = count_by is_sample (take l.timed-index records) in (
      after.served,
      subst (λ samples. AreCounted c.args.input.now.options.frames samples c.take_record.new.self.counts)
          (samples-next items records same l.timed-index _ within) (after.counted before l.invariant.1),
      λ first agrees.
          let so = l.invariant.2 first agrees in
          let left = records-left items records same l.timed-index _ within in
          step c.args.input.now.files.now
          (IsToldWith module_of g.U.Steps.walker g.U.Steps.is_note g.U.Sampled.starts c.args.input.now.options c.args.input.now.files.now gives attributes)
          (λ r state other named mapped told given. (given.0, given.1, text state other named mapped (sample_in attributes (with_body r given.0)) told given.2))
          c.args.input.now.options.frames (records_in records) first c.args.self.now.counts c.args.out.now.bytes
          c.args.self.now.processes.generations
          _ (records_in (drop (l.timed-index + 1) records)) l.self.names c.take_record.new.self.names
          l.self.processes.by_pid c.take_record.new.self.processes.by_pid l.self.counts c.take_record.new.self.counts
          l.out.bytes c.take_record.new.out.bytes
          l.self.processes.generations c.take_record.new.self.processes.generations
          (subst (λ rest. IsSoFar c.args.input.now.files.now
          (IsToldWith module_of g.U.Steps.walker g.U.Steps.is_note g.U.Sampled.starts c.args.input.now.options c.args.input.now.files.now gives attributes)
          c.args.input.now.options.frames (records_in records) first c.args.self.now.counts c.args.out.now.bytes
          c.args.self.now.processes.generations rest
          l.self.names l.self.processes.by_pid l.self.counts l.out.bytes l.self.processes.generations) left so)
          after.read after.drawn after.state after.sample
          (λ kind. let same = after.other kind in (same.0, ap (λ (out : OutputView). out.bytes) same.1)) after.lost,
      after.noted ∙ or-false l.out.has_failed ∙ l.invariant.3,
    )

pub returns-clause-state : goal.returns-clause-state
returns-clause-state g c = λ first agrees.
    let l = c.loop-timed in
    let records = c.args.input.now.recording.now.records.items in
    let so = l.invariant.2 first agrees in
    let last : state_over c.args.input.now.files.now (records_in (drop l.timed-index records)) so.state ≡ so.state =
    at_drop_all (λ rest. state_over c.args.input.now.files.now (records_in rest) so.state) records l.timed-index (omega arith) in
    subst (λ state. Agrees l.self.names l.self.processes.by_pid state) (sym last ∙ so.leads) so.agrees

pub returns-clause-told : goal.returns-clause-told
returns-clause-told g c = λ first agrees.
    let l = c.loop-timed in
    let files = c.args.input.now.files.now in
    let records = c.args.input.now.recording.now.records.items in
    let so = l.invariant.2 first agrees in
    let none : samples_from files so.state (records_in (drop l.timed-index records)) ≡ [] =
    at_drop_all (λ rest. samples_from files so.state (records_in rest)) records l.timed-index (omega arith) in
    let all : so.told ≡ samples_from files first (records_in records) =
    sym (append-nil so.told) ∙ ap (λ rest. so.told ++ rest) (sym none) ∙ so.samples in (
      so.texts,
      subst (λ told. Each (IsToldWith (g.M.ModuleMaker.module_of c.args.input.now.maker.now) g.U.Steps.walker g.U.Steps.is_note g.U.Sampled.starts
          c.args.input.now.options files (g.B.SampleSource.gives c.args.input.now.samples.now) (map attribute_view c.args.input.now.recording.now.events.attributes.items)) told so.texts) all so.each,
      so.taken,
    )

pub returns-clause-read : goal.returns-clause-read
returns-clause-read g c =
    let l = c.loop-timed in
    let records = c.args.input.now.recording.now.records.items in
    let begun = state_in c.args.self.now.names c.args.self.now.processes.by_pid in
    let so = l.invariant.2 begun (record { named = λ tid. refl; mapped = λ pid. refl }) in
    sym so.unrefused ∙ at_drop_all (λ rest. first_refusal (records_in rest)) records l.timed-index (omega arith)

same-refusal : {T : Type 0} (result : Result T StacksError) (error : StacksError) (refusal : RecordingError)
    → IsErrAnd result (λ back. back ≡ error) → result ≡ Err (Refused refusal) → error ≡ Refused refusal
same-refusal (Ok x) error refusal failed is = absurd failed
same-refusal {T} (Err e) error refusal failed is = sym failed ∙ same_error T e (Refused refusal) is

pub returns-in_err-take_record-clause-before : goal.returns-in_err-take_record-clause-before
returns-in_err-take_record-clause-before g c = λ first agrees refusal is.
    let l = c.loop-timed in
    let files = c.args.input.now.files.now in
    let frames = c.args.input.now.options.frames in
    let records = c.args.input.now.recording.now.records.items in
    let IsText = IsToldWith (g.M.ModuleMaker.module_of c.args.input.now.maker.now) g.U.Steps.walker g.U.Steps.is_note g.U.Sampled.starts
    c.args.input.now.options files (g.B.SampleSource.gives c.args.input.now.samples.now) (map attribute_view c.args.input.now.recording.now.events.attributes.items) in
    let items = c.deref-timed-items.result.now in
    let same = c.deref-timed-items.ensures.value in
    let within : l.timed-index < length items = omega arith in
    let left = records-left items records same l.timed-index _ within in
    let rest = records_in (drop (l.timed-index + 1) records) in
    let ended = same-refusal c.from_residual.result c.in_err-take_record.field-0.0 refusal c.from_residual.ensures.1 is in
    let ends = c.in_err-take_record.ensures.refused (count_by is_sample (take l.timed-index records)) l.invariant.1 in
    let here = subst (MayEnd _ _ _ _) ended ends in
    let kept = c.in_err-take_record.ensures.other (λ kind. true≢false (sym (ap is_some here) ∙ ap is_some (sample-unrefused _ kind))) in
    let so = subst (λ rest. IsSoFar files IsText frames (records_in records) first c.args.self.now.counts
    c.args.out.now.bytes c.args.self.now.processes.generations rest l.self.names l.self.processes.by_pid l.self.counts
    l.out.bytes l.self.processes.generations) left (l.invariant.2 first agrees) in
    let told = told-before files IsText frames (records_in records) first c.args.self.now.counts
    c.args.out.now.bytes c.args.self.now.processes.generations _ rest l.self.names l.self.processes.by_pid l.self.counts
    l.out.bytes l.self.processes.generations so refusal here in (
      so.texts,
      subst (λ told. Each IsText told so.texts) told so.each,
      AreTaken-same frames so.texts c.args.self.now.counts l.self.counts c.take_record.new.self.counts
          c.args.out.now.bytes l.out.bytes c.take_record.new.out.bytes so.taken
          kept.0 (ap (λ (out : OutputView). out.bytes) kept.1),
    )

pub returns-clause-lost : goal.returns-clause-lost
returns-clause-lost g c =
    let l = c.loop-timed in
    let records = c.args.input.now.recording.now.records.items in
    let begun = state_in c.args.self.now.names c.args.self.now.processes.by_pid in
    let so = l.invariant.2 begun (record { named = λ tid. refl; mapped = λ pid. refl }) in
    let none = sym so.unrefused ∙ at_drop_all (λ rest. first_refusal (records_in rest)) records l.timed-index (omega arith) in
    sym (at_drop_all (λ rest. lost_over (before_refusal (records_in rest)) l.self.counts.lost) records l.timed-index (omega arith))
    ∙ so.loses ∙ ap (λ all. lost_over all c.args.self.now.counts.lost) (all-before (records_in records) none)

pub returns-in_err-take_record-clause-lost_before : goal.returns-in_err-take_record-clause-lost_before
returns-in_err-take_record-clause-lost_before g c = λ refusal is.
    let l = c.loop-timed in
    let files = c.args.input.now.files.now in
    let frames = c.args.input.now.options.frames in
    let records = c.args.input.now.recording.now.records.items in
    let begun = state_in c.args.self.now.names c.args.self.now.processes.by_pid in
    let IsText = IsToldWith (g.M.ModuleMaker.module_of c.args.input.now.maker.now) g.U.Steps.walker g.U.Steps.is_note g.U.Sampled.starts
    c.args.input.now.options files (g.B.SampleSource.gives c.args.input.now.samples.now) (map attribute_view c.args.input.now.recording.now.events.attributes.items) in
    let items = c.deref-timed-items.result.now in
    let within : l.timed-index < length items = omega arith in
    let left = records-left items records c.deref-timed-items.ensures.value l.timed-index _ within in
    let rest = records_in (drop (l.timed-index + 1) records) in
    let ended = same-refusal c.from_residual.result c.in_err-take_record.field-0.0 refusal c.from_residual.ensures.1 is in
    let ends = c.in_err-take_record.ensures.refused (count_by is_sample (take l.timed-index records)) l.invariant.1 in
    let here = subst (MayEnd _ _ _ _) ended ends in
    let so = subst (λ rest. IsSoFar files IsText frames (records_in records) begun c.args.self.now.counts
    c.args.out.now.bytes c.args.self.now.processes.generations rest l.self.names l.self.processes.by_pid l.self.counts
    l.out.bytes l.self.processes.generations) left (l.invariant.2 begun (record { named = λ tid. refl; mapped = λ pid. refl })) in
    c.in_err-take_record.ensures.lost_before refusal here
    ∙ loses-before files IsText frames (records_in records) begun c.args.self.now.counts
    c.args.out.now.bytes c.args.self.now.processes.generations _ rest l.self.names l.self.processes.by_pid l.self.counts
    l.out.bytes l.self.processes.generations so refusal here

pub returns-in_err-take_record-clause-refused : goal.returns-in_err-take_record-clause-refused
returns-in_err-take_record-clause-refused g c = λ first agrees.
    let l = c.loop-timed in
    let files = c.args.input.now.files.now in
    let frames = c.args.input.now.options.frames in
    let records = c.args.input.now.recording.now.records.items in
    let IsText = IsToldWith (g.M.ModuleMaker.module_of c.args.input.now.maker.now) g.U.Steps.walker g.U.Steps.is_note g.U.Sampled.starts
    c.args.input.now.options files (g.B.SampleSource.gives c.args.input.now.samples.now) (map attribute_view c.args.input.now.recording.now.events.attributes.items) in
    let items = c.deref-timed-items.result.now in
    let same = c.deref-timed-items.ensures.value in
    let within : l.timed-index < length items = omega arith in
    let left = records-left items records same l.timed-index _ within in
    let rest = records_in (drop (l.timed-index + 1) records) in
    let ends = c.in_err-take_record.ensures.refused (count_by is_sample (take l.timed-index records)) l.invariant.1 in
    let so = subst (λ rest. IsSoFar files IsText frames (records_in records) first c.args.self.now.counts
    c.args.out.now.bytes c.args.self.now.processes.generations rest l.self.names l.self.processes.by_pid l.self.counts
    l.out.bytes l.self.processes.generations) left (l.invariant.2 first agrees) in
    failed_as c.from_residual.result c.in_err-take_record.field-0.0 _ c.from_residual.ensures.1
    (ends_more _ _ _ _ _ _ _ _ c.in_err-take_record.field-0.0 (λ writes. writes)
    (λ refusal is. refused-here files IsText frames (records_in records) first c.args.self.now.counts
    c.args.out.now.bytes c.args.self.now.processes.generations _ rest l.self.names l.self.processes.by_pid l.self.counts
    l.out.bytes l.self.processes.generations so refusal is)
    (draws-here files IsText frames (records_in records) first c.args.self.now.counts
    c.args.out.now.bytes c.args.self.now.processes.generations _ rest l.self.names l.self.processes.by_pid l.self.counts
    l.out.bytes l.self.processes.generations so)
    (samples-within items records same l.timed-index _ within) ends)
