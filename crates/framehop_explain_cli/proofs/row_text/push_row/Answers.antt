use Rattle.std.proofs.Common.{◌+◌, ◌<◌, ◌≤◌, ◌∙◌, string_bytes, sym, ap, rules, arith}
use Rattle.framehop_explain_cli.proofs.RowLemmas.{left, next, end}
use Rattle.framehop_explain_cli.proofs.row_text.push_row.Goals as goal

pub loop-number-preserved : goal.loop-number-preserved
loop-number-preserved g c =
    let names = g.A.RegisterNames.names in
    let row = c.args.row.now in
    let inv = c.loop-number.invariant in
    let within : c.loop-number.number < 256 = search rules in (
      omega arith,
      ap (λ text. left names row text (c.loop-number.number + 1)) c.in_ok-push_column.ensures
          ∙ next names row (string_bytes c.loop-number.out) c.loop-number.number within
          ∙ inv.1,
    )

pub returns : goal.returns
returns g c =
    let past : 256 ≤ c.loop-number.number = search rules in
    sym (end g.A.RegisterNames.names c.args.row.now (string_bytes c.loop-number.out) c.loop-number.number past) ∙ c.loop-number.invariant.1
