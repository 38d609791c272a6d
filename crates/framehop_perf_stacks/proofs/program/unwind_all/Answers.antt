use Rattle.std.proofs.Common.{Err, map, refl, ap, sym, ◌∙◌, true≢false, arith}
use Rattle.std.specs.Result.{is_err}
use Rattle.std.proofs.lemmas.Result.{IfOk-from_err}
use Rattle.framehop_perf_stacks.proofs.EndedLemmas.{first_ok, first_ok_refused, ends_more, either_error, refusal_of_second, same_error, if_err_weaker, if_err_at, if_err_none}
use Rattle.framehop_perf_stacks.proofs.BodiesLemmas.{completed}
use Rattle.framehop_perf_stacks.proofs.WrittenLemmas.{second-ends, either-failed}
use Rattle.framehop_perf_stacks.proofs.TakenLemmas.{made, summed, both_ok, at_ok}
use Rattle.framehop_recording.specs.Attributes.{attribute_view}
use Rattle.framehop_perf_stacks.specs.Ended.{before_refusal}
use Rattle.framehop_perf_stacks.specs.Recording.{records_in}
use Rattle.framehop_perf_stacks.specs.Printed.{MayEndAt}
use Rattle.framehop_perf_stacks.specs.Samples.{beginning, lost_over, IsToldOf}
use Rattle.framehop_perf_stacks.specs.Written.{has_one_failed}
use Rattle.framehop_perf_stacks.specs.declared.error.StacksError.TheVariants.{Recording as Refused}
use Rattle.framehop_perf_stacks.proofs.program.unwind_all.Goals as goal
use Rattle.framehop_perf_stacks.proofs.program.unwind_all.Goals.{in-Ok, in-Err}

pub take_records-taken-requires-clause-served : goal.take_records-taken-requires-clause-served
take_records-taken-requires-clause-served g c = c.in_ok-run.ensures.served (g.M.ModuleMaker.module_of c.args.maker.now)

pub take_records-taken-requires-clause-none : goal.take_records-taken-requires-clause-none
take_records-taken-requires-clause-none g c = c.in_ok-run.ensures.none c.args.options.frames

pub returns-clause-made : goal.returns-clause-made
returns-clause-made g c = elim c.match-and.branch [
  | in-Ok w ↦
      let both = sym c.and.ensures ∙ w.in-Ok.is in
      let told = both_ok c.write_counts-counted.result c.take_records-taken.result _ both
      (c.take_records-taken.ensures.told beginning c.in_ok-run.ensures.begun) in
      let all = completed (g.B.SampleSource.gives c.args.samples.now) c.args.files.now
      (IsToldOf (g.M.ModuleMaker.module_of c.args.maker.now) g.U.Steps.walker g.U.Steps.is_note g.U.Sampled.starts c.args.options c.args.files.now (map attribute_view c.args.recording.now.events.attributes.items))
      (records_in c.args.recording.now.records.items) beginning told.0 told.1 in
      let none = both_ok c.write_counts-counted.result c.take_records-taken.result _ both c.take_records-taken.ensures.read in
      at_ok c.match-and.ended c.args.recording.now.refusal _ w.ended-is (
        record { at_end = refl; none = none },
        (
          all.0,
          all.1,
          (
            told.0,
            all.2,
            made c.args.options.frames told.0 c.in_ok-run.run'.counts.stacks
                c.take_records-taken.new.self.counts.stacks c.args.out.now.bytes
                c.take_records-taken.new.out.bytes told.2.1 c.in_ok-run.ensures.uncounted,
            (
              c.take_records-taken.new.self.counts,
              summed told.0 _ c.in_ok-run.run'.counts c.take_records-taken.new.self.counts told.2.0
                  (c.in_ok-run.ensures.none c.args.options.frames).samples (omega (arith, (c.in_ok-run.ensures.none c.args.options.frames).unsure)) (omega (arith, (c.in_ok-run.ensures.none c.args.options.frames).guessed)) (omega (arith, (c.in_ok-run.ensures.none c.args.options.frames).cut)) (omega (arith, (c.in_ok-run.ensures.none c.args.options.frames).in_vdso))
                  c.in_ok-run.ensures.endless
                  (both_ok c.write_counts-counted.result c.take_records-taken.result _ both c.take_records-taken.ensures.lost
                  ∙ ap (lost_over (records_in c.args.recording.now.records.items)) c.in_ok-run.ensures.unlost ∙ sym (all.3 0))
                  (first_ok c.write_counts-counted.result c.take_records-taken.result _ both c.write_counts-counted.ensures.ordered),
              first_ok c.write_counts-counted.result c.take_records-taken.result _ both c.write_counts-counted.ensures.written,
            ),
          ),
        ),
      )
  | in-Err w ↦ IfOk-from_err c.match-and.ended _ (ap is_err w.ended-is)
]

pub returns-clause-ended : goal.returns-clause-ended
returns-clause-ended g c = elim c.match-and.branch [
  | in-Ok w ↦ if_err_none c.match-and.ended _ _ w.ended-is
  | in-Err w ↦
      let out = c.take_records-taken.new.out in
      let err = c.write_counts-counted.new.err in
      let EndsHere = MayEndAt (has_one_failed out err) c.args.recording.now c.args.files.now in
      if_err_at c.match-and.ended _ EndsHere w.ended-is
      (either_error c.write_counts-counted.result c.take_records-taken.result _ EndsHere (sym c.and.ensures ∙ w.in-Err.is)
      (second-ends c.write_counts-counted.result _ _ _ out c.args.err.now err c.write_counts-counted.ensures.refused c.write_counts-counted.ensures.noted)
      (if_err_weaker c.take_records-taken.result _ EndsHere
      (λ error ends. ends_more _ _ _ _ _ _ _ _ error (either-failed c.args.options.frames out.has_failed err.has_failed) (λ refusal is. is) (omega (arith, c.in_ok-run.ensures.undrawn)) (omega arith) ends)
      (c.take_records-taken.ensures.refused beginning c.in_ok-run.ensures.begun)))
]

pub returns-clause-before : goal.returns-clause-before
returns-clause-before g c = elim c.match-and.branch [
  | in-Ok w ↦ λ refusal is. absurd (true≢false (sym (ap is_err is) ∙ ap is_err w.ended-is))
  | in-Err w ↦ λ refusal is.
      let same = same_error _ w.in-Err.error (Refused refusal) (sym w.ended-is ∙ is) in
      let both = sym c.and.ensures ∙ w.in-Err.is ∙ ap (λ error. Err error) same in
      let taken = refusal_of_second c.write_counts-counted.result c.take_records-taken.result refusal both c.write_counts-counted.ensures.refused in
      let told = c.take_records-taken.ensures.before beginning c.in_ok-run.ensures.begun refusal taken in
      let all = completed (g.B.SampleSource.gives c.args.samples.now) c.args.files.now
      (IsToldOf (g.M.ModuleMaker.module_of c.args.maker.now) g.U.Steps.walker g.U.Steps.is_note g.U.Sampled.starts c.args.options c.args.files.now (map attribute_view c.args.recording.now.events.attributes.items))
      (before_refusal (records_in c.args.recording.now.records.items)) beginning told.0 told.1 in (
        all.0,
        all.1,
        (
          told.0,
          all.2,
          made c.args.options.frames told.0 c.in_ok-run.run'.counts.stacks
              c.take_records-taken.new.self.counts.stacks c.args.out.now.bytes
              c.take_records-taken.new.out.bytes told.2.1 c.in_ok-run.ensures.uncounted,
          (
            c.take_records-taken.new.self.counts,
            summed told.0 _ c.in_ok-run.run'.counts c.take_records-taken.new.self.counts told.2.0
                (c.in_ok-run.ensures.none c.args.options.frames).samples (omega (arith, (c.in_ok-run.ensures.none c.args.options.frames).unsure)) (omega (arith, (c.in_ok-run.ensures.none c.args.options.frames).guessed)) (omega (arith, (c.in_ok-run.ensures.none c.args.options.frames).cut)) (omega (arith, (c.in_ok-run.ensures.none c.args.options.frames).in_vdso))
                c.in_ok-run.ensures.endless
                (c.take_records-taken.ensures.lost_before refusal taken
                ∙ ap (lost_over (before_refusal (records_in c.args.recording.now.records.items))) c.in_ok-run.ensures.unlost ∙ sym (all.3 0))
                (first_ok_refused c.write_counts-counted.result c.take_records-taken.result refusal both c.write_counts-counted.ensures.refused c.write_counts-counted.ensures.ordered),
            first_ok_refused c.write_counts-counted.result c.take_records-taken.result refusal both c.write_counts-counted.ensures.refused c.write_counts-counted.ensures.written,
          ),
        ),
      )
]
