use Rattle.std.proofs.Common.{◌≡◌, ◌+◌, ℕ, Bool, true, false, List, map, length, nat_eq, Option, None, cond, refl, ap, sym, ◌∙◌, subst, true≢false, arith}
use Rattle.std.proofs.lemmas.List.{length-map}
use Rattle.framehop_folded.specs.Folded.{total_of}
use Rattle.framehop_frames.specs.Line.{part_of}
use Rattle.framehop_frames.specs.Stack.{shown_frame}
use Rattle.framehop_perf_stacks.specs.declared.counts.Counts.{Counts}
use Rattle.framehop_folded.specs.declared.folded.Folded.{Folded}
use Rattle.framehop_perf_stacks.specs.Counts.{CountsOneMore, HasSampleMore}
use Rattle.framehop_perf_stacks.specs.Ended.{MayEnd}
use Rattle.framehop_perf_stacks.specs.Samples.{Told, stack_of, told_of, IsTextTaken}
use Rattle.framehop_perf_stacks.proofs.EndedLemmas.{ends_more, failed_as}
use Rattle.framehop_perf_stacks.proofs.run.take_stack.Goals as goal

pub returns-in_err-add_stack-clause-refused : goal.returns-in_err-add_stack-clause-refused
returns-in_err-add_stack-clause-refused g c = λ samples counted.
    let frames = c.args.at.options.frames in
    let total : total_of c.add_sample.new.self.stacks ≡ samples =
    ap total_of c.in_ok-add_sample.ensures.stacks ∙ counted.stacks ∙ ap (λ b. cond b 0 samples) c.if-at.false in
    failed_as c.from_residual-in_err-add_stack.result _ (MayEnd _ None 0 (samples + 1)) c.from_residual-in_err-add_stack.ensures.1
    (ends_more _ _ None None 0 0 (total_of c.add_sample.new.self.stacks + 1) (samples + 1) c.in_err-add_stack.field-0.0
    (λ writes. writes) (λ refusal is. is) (omega arith) (omega (arith, total)) (c.in_err-add_stack.ensures.within _))

-- a line that is counted
counted : (frames : Bool) (told : Told) (old new : Folded) (bytes : Option (List ℕ)) → frames ≡ false
    → CountsOneMore old new told.text → IsTextTaken frames told old new bytes bytes
counted false told old new bytes is one = (one, refl)
counted true told old new bytes is one = absurd (true≢false is)

-- a sample that is counted, by equal values
sample-as : (old new : Counts) (end end' : List ℕ) (sure sure' guess guess' cut cut' vdso vdso' : Bool)
    → end ≡ end' → sure ≡ sure' → guess ≡ guess' → cut ≡ cut' → vdso ≡ vdso'
    → HasSampleMore old new end sure guess cut vdso → HasSampleMore old new end' sure' guess' cut' vdso'
sample-as old new end end' sure sure' guess guess' cut cut' vdso vdso' ends sures guesses cuts vdsos more = record {
  samples = more.samples;
  unsure = more.unsure ∙ ap (λ b. old.unsure + cond b 0 1) sures;
  guessed = more.guessed ∙ ap (λ b. old.guessed + cond b 1 0) guesses;
  cut = more.cut ∙ ap (λ b. old.cut + cond b 1 0) cuts;
  in_vdso = more.in_vdso ∙ ap (λ b. old.in_vdso + cond b 1 0) vdsos;
  ends = subst (CountsOneMore old.ends new.ends) ends more.ends;
  lost = more.lost;
}

pub returns-in_ok-add_stack-clause-taken : goal.returns-in_ok-add_stack-clause-taken
returns-in_ok-add_stack-clause-taken g c =
    let told = told_of c.args.at (stack_of c.args.stack) c.args.notes.now in
    let kept = c.in_ok-add_stack.ensures in
    let frames = c.args.stack.frames.now in
    let sure = ap (λ n. nat_eq n (length frames)) (sym (length-map c.sure_part.result.now shown_frame) ∙ ap length c.sure_part.ensures)
    ∙ ap (nat_eq (length (part_of true (map shown_frame frames)))) (sym (length-map frames shown_frame)) in
    let more = sample-as c.args.counts.now c.add_sample.new.self c.as_bytes-end.result.now told.end _ told.is_sure _ told.has_guess _ told.is_cut _ told.in_vdso
    (c.as_bytes-end.ensures.value ∙ c.name_of_end.ensures) sure c.has_guess-has_guess.ensures c.is_cut-is_cut.ensures c.has_unread_vdso-in_vdso.ensures
    c.in_ok-add_sample.ensures.more in (
      record {
        samples = kept.samples ∙ more.samples;
        unsure = kept.unsure ∙ more.unsure;
        guessed = kept.guessed ∙ more.guessed;
        cut = kept.cut ∙ more.cut;
        in_vdso = kept.in_vdso ∙ more.in_vdso;
        ends = subst (λ ends. CountsOneMore c.args.counts.now.ends ends told.end) (sym kept.ends) more.ends;
        lost = kept.lost ∙ more.lost;
      },
      counted c.args.at.options.frames told c.args.counts.now.stacks c.add_stack.new.self.stacks c.args.out.now.bytes c.if-at.false
          (subst (λ old. CountsOneMore old c.add_stack.new.self.stacks told.text) c.in_ok-add_sample.ensures.stacks
          (subst (CountsOneMore c.add_sample.new.self.stacks c.add_stack.new.self.stacks) (c.in_ok-line.ensures c.args.notes.now) kept.more)),
    )
