use Rattle.std.proofs.Common.{◌≡◌, ℕ, ◌*◌, sym, ◌∙◌, ap, arith, subst}
use Rattle.framehop_bytes.specs.Bytes.{le8}
use Rattle.framehop_frames.specs.Start.{with_words}
use Rattle.framehop_frames.proofs.StartLemmas.{one_word, no_word}
use Rattle.framehop_frames.proofs.start.set_words.Goals as goal

pub loop-left-preserved : goal.loop-left-preserved
loop-left-preserved c =
    let word = c.u64_at-word.ensures ∙ ap (λ k. le8 c.args.general.now (k * 8)) c.from.ensures in
    record {
      within = omega arith;
      same = rw c.set.ensures (rw word
          (sym (one_word c.args.general.now c.loop-left.left c.loop-left.columns c.loop-left-test.true) ∙ c.loop-left.invariant.same));
    }

pub returns : goal.returns
returns c =
    let none : c.loop-left.left ≡ 0 = omega arith in
    sym (no_word c.args.general.now c.loop-left.columns)
    ∙ subst (λ (k : ℕ). with_words c.args.general.now k c.loop-left.columns ≡ with_words c.args.general.now 29 c.args.columns.now) none c.loop-left.invariant.same
