use Rattle.std.proofs.Common.{◌≡◌, ℕ, sym, ◌∙◌, arith, subst}
use Rattle.framehop_callers.specs.State.{forgotten_below}
use Rattle.framehop_callers.proofs.Runs.{one_forgotten, none_forgotten, nothing_forgotten}
use Rattle.framehop_callers.proofs.state.forget_registers.Goals as goal

pub loop-left-preserved : goal.loop-left-preserved
loop-left-preserved c = record {
  within = omega arith;
  same = rw c.forget_if.ensures (rw c.is_in.ensures
      (sym (one_forgotten c.args.registers.0 c.loop-left.left c.loop-left.words c.loop-left-test.true) ∙ c.loop-left.invariant.same));
}

pub returns : goal.returns
returns c =
    let none : c.loop-left.left ≡ 0 = omega arith in
    sym (none_forgotten c.args.registers.0 c.loop-left.words)
    ∙ subst (λ (k : ℕ). forgotten_below c.args.registers.0 k c.loop-left.words ≡ forgotten_below c.args.registers.0 32 c.args.words.now) none c.loop-left.invariant.same

pub returns-then-registers-eq0 : goal.returns-then-registers-eq0
returns-then-registers-eq0 c = rw c.if-registers-eq0.true (sym (nothing_forgotten 32 c.args.words.now))
