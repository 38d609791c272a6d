use Rattle.std.proofs.Common.{arith, ap, ◌∙◌, ℕ, Option, length}
use Rattle.framehop_callers.specs.Rules.{by_convention}
use Rattle.framehop_callers.specs.RegisterFile.{word_of}
use Rattle.framehop_callers.proofs.Columns.{one_more, keeps-length}
use Rattle.framehop_callers.proofs.caller.unnamed_registers.Goals as goal

pub loop-column-preserved : goal.loop-column-preserved
loop-column-preserved c =
    let values : ℕ → Option ℕ = λ k. by_convention c.args.convention k c.args.cfa (word_of c.args.regs.now (record { 0 = k })) in
    let i = c.loop-column.invariant in
    let column = c.loop-column.column in
    let word = c.by_convention-word.result in
    let less = c.loop-column-test.true in
    record {
      within = omega arith;
      long = ap length c.set.ensures ∙ keeps-length c.loop-column.caller column word i.long less;
      set = rw c.set.ensures (one_more values c.loop-column.caller column word i.long less (c.by_convention-word.ensures ∙ ap (by_convention c.args.convention column c.args.cfa) c.get.ensures) i.set);
    }

pub returns-clause-columns : goal.returns-clause-columns
returns-clause-columns c = λ k below. c.loop-column.invariant.set k (omega arith)

pub returns-clause-whole : goal.returns-clause-whole
returns-clause-whole c = c.loop-column.invariant.long
