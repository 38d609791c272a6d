use Rattle.std.proofs.Common.{arith, ap, ◌∙◌, ◌+◌, ◌*◌, length, Some}
use Rattle.framehop_bytes.specs.Bytes.{le8}
use Rattle.framehop_callers.proofs.Columns.{one_more, keeps-length}
use Rattle.framehop_backtrace.proofs.ColumnsLemmas.{columns-are}
use Rattle.framehop_backtrace.proofs.signal.saved_columns.Goals as goal

pub loop-at-preserved : goal.loop-at-preserved
loop-at-preserved c =
    let i = c.loop-at.invariant in
    let less = c.loop-at-test.true in
    record {
      within = omega arith;
      long = ap length c.set.ensures ∙ keeps-length c.loop-at.columns c.loop-at.at (Some c.u64_at-word.result) i.long less;
      set = rw c.set.ensures (one_more (λ at. Some (le8 c.args.frame.now (312 + at * 8))) c.loop-at.columns c.loop-at.at (Some c.u64_at-word.result) i.long less (ap Some (c.u64_at-word.ensures ∙ ap (λ k. le8 c.args.frame.now (312 + k * 8)) c.from.ensures)) i.set);
    }

pub returns : goal.returns
returns c =
    let i = c.loop-at.invariant in
    columns-are (λ at. Some (le8 c.args.frame.now (312 + at * 8))) c.loop-at.columns i.long (λ column less. i.set column (omega arith))
