use Rattle.std.proofs.Common.{ap, Some}
use Rattle.framehop_explain_cli.specs.FaultText.{no_json_text}
use Rattle.framehop_explain_cli.proofs.program.parse.Goals as goal

pub returns-in_ok-format-in-Err-clause-placed : goal.returns-in_ok-format-in-Err-clause-placed
unfolding no_json_text
returns-in_ok-format-in-Err-clause-placed c =
    λ none. (c.line-line.result, c.column-column.result, ap (λ text. Some text) c.in_ok-format-in-Err.ensures.ok)
