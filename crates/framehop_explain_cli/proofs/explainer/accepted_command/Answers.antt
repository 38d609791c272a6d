use Rattle.std.proofs.Common.{◌≢◌, [], sym, rules}
use Rattle.serde_json.specs.View.{view}
use Rattle.framehop_walk.specs.Commands.{read_command}
use Rattle.framehop_walk.specs.Refusals.{refusal_text}
use Rattle.framehop_walk.specs.declared.refusal.Refusal.TheVariants.{OutOfMemory}
use Rattle.framehop_walk.proofs.Sequences.{said, next-read, next-refused, next-no_verb}
use Rattle.framehop_explain_cli.proofs.explainer.accepted_command.Goals as goal

pub returns-in_default : goal.returns-in_default
returns-in_default g c =
    (refusal_text c.in_default.field-0, next-no_verb g.A.Registers.reading [] (view c.args.command.now) (refusal_text c.in_default.field-0) (sym c.in_default.ensures))

pub returns-in-Ok-read_command : goal.returns-in-Ok-read_command
returns-in-Ok-read_command g c =
    let reading = g.A.Registers.reading in
    let one = said (read_command reading c.in-Ok.verb.now (view c.args.command.now)) c.in-Ok-read_command.accepted c.in-Ok-read_command.ensures in
    ((c.in-Ok.verb.now, one.0), next-read reading [] (view c.args.command.now) c.in-Ok.verb.now one.0 (sym c.in-Ok.ensures) one.1, one.2)

pub returns-in-Err : goal.returns-in-Err
returns-in-Err g c =
    let other : c.in-Err.field-0 ≢ OutOfMemory = search rules in (
      refusal_text c.in-Err.field-0,
      next-refused g.A.Registers.reading [] (view c.args.command.now) c.in-Ok.verb.now (refusal_text c.in-Err.field-0) (sym c.in-Ok.ensures) (c.in-Err.ensures other),
    )
