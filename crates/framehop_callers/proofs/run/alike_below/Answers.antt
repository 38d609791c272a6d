use Rattle.std.proofs.Common.{◌≡◌, ℕ, sym, ◌∙◌, arith, subst}
use Rattle.framehop_callers.specs.RegisterFile.{unknown}
use Rattle.framehop_callers.specs.Run.{alike_below}
use Rattle.framehop_callers.proofs.Runs.{one_column, no_column}
use Rattle.framehop_callers.proofs.run.alike_below.Goals as goal

pub loop-columns-preserved : goal.loop-columns-preserved
loop-columns-preserved c = record {
  within = omega arith;
  same = rw c.set.ensures (rw c.alike.ensures (rw (c.get.ensures, c.get-in-loop-columns.ensures)
      (sym (one_column c.loop-columns.columns c.args.left.now c.args.right.now c.loop-columns.both c.loop-columns-test.true)
      ∙ c.loop-columns.invariant.same)));
}

pub returns : goal.returns
returns c =
    let none : c.loop-columns.columns ≡ 0 = omega arith in
    sym (no_column c.args.left.now c.args.right.now c.loop-columns.both)
    ∙ subst (λ (k : ℕ). alike_below k c.args.left.now c.args.right.now c.loop-columns.both ≡ alike_below c.args.columns c.args.left.now c.args.right.now unknown) none c.loop-columns.invariant.same
