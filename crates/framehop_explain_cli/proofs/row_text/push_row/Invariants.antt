use Rattle.std.proofs.Common.{◌≡◌, ◌++◌, ◌≤◌, string_bytes}
use Rattle.framehop_explain_cli.specs.RowText.{row_text}
use Rattle.framehop_explain_cli.proofs.RowLemmas.{left}
use Rattle.framehop_explain_cli.proofs.row_text.push_row.Given as goal

abbrev pub invariant-loop-number : goal.invariant-loop-number
invariant-loop-number g l = (l.number ≤ 256) × (left g.A.RegisterNames.names l.row (string_bytes l.out) l.number ≡ string_bytes l.fn.out ++ row_text g.A.RegisterNames.names l.row)
