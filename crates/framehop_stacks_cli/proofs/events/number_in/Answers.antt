use Rattle.std.proofs.Common.{◌∙◌}
use Rattle.framehop_stacks_cli.proofs.CommandLineLemmas.{parsed_number}
use Rattle.framehop_stacks_cli.proofs.events.number_in.Goals as goal

pub returns : goal.returns
returns c = c.ok.ensures.value ∙ parsed_number 64 c.args.word.now c.parse.result c.parse.ensures.value.0
