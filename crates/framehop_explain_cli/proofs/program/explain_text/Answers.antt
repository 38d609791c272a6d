use Rattle.serde_json.specs.View.{view}
use Rattle.framehop_explain_cli.proofs.PlaceLemmas.{placed-in}
use Rattle.framehop_explain_cli.proofs.program.explain_text.Goals as goal

pub returns-clause-placed : goal.returns-clause-placed
returns-clause-placed c =
    placed-in c.in-Err.refusal c.args.bytes.now (view c.in_ok-value.value) _ c.in_ok-value.ensures.reading c.in_ok-place_of-in-Err.ensures
