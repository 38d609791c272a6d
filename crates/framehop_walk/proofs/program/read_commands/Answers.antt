use Rattle.std.proofs.Common.{◌≡◌, ◌<◌, ◌≤◌, ◌++◌, ◌∷◌, [], ◌∙◌, ap, sym, refl, rules, map, Err, length, get_or}
use Rattle.serde_json.specs.View.{view}
use Rattle.framehop_walk.specs.Refusals.{refusal_text}
use Rattle.framehop_walk.specs.Commands.{read_command}
use Rattle.framehop_walk.specs.Program.{read_next}
use Rattle.framehop_walk.proofs.Items.{each-more, each-refused, each-end}
use Rattle.framehop_walk.proofs.Sequences.{said, AreSaid-none, AreSaid-push, verbs-push, next-read, next-refused, next-no_verb}
use Rattle.framehop_walk.proofs.program.read_commands.Goals as goal

pub loop-command-init : goal.loop-command-init
loop-command-init g c = ([], refl, sym (ap (map (λ v. v.now)) c.new-verbs.ensures.items), AreSaid-none c.new-commands.result.items c.new-commands.ensures.items)

pub loop-command-preserved : goal.loop-command-preserved
loop-command-preserved g c =
    let reading = g.A.Registers.reading in
    let given = c.loop-command.invariant in
    let within : c.loop-command.command-index < length c.args.items.now.items = rw c.deref-command-items.ensures.value at c.loop-command-test.true in
    let item : c.command-item.result ≡ get_or c.args.items.now.items c.loop-command.command-index c.command-item.result = rw c.deref-command-items.ensures.value at c.command-item.is in
    let one = said (read_command reading c.in_ok-verb.verb.now (view c.command-item.result)) c.in_ok-read_command.field-0 c.in_ok-read_command.ensures in
    let reads = next-read reading given.0 (view c.command-item.result) c.in_ok-verb.verb.now one.0 (sym c.in_ok-verb.ensures) one.1 in (
      given.0 ++ (c.in_ok-verb.verb.now, one.0) ∷ [],
      given.1 ∙ each-more (read_next reading) given.0 c.args.items.now.items c.loop-command.command-index c.command-item.result (c.in_ok-verb.verb.now, one.0) within item reads,
      rw c.in_ok-push-2.ensures.items (verbs-push given.0 (c.in_ok-verb.verb.now, one.0) c.loop-command.verbs.items c.in_ok-verb.verb given.2 refl),
      rw c.in_ok-push.ensures.items (AreSaid-push given.0 c.loop-command.commands.items (c.in_ok-verb.verb.now, one.0) c.in_ok-read_command.field-0 given.3 one.2),
    )

pub returns-in_err-verb : goal.returns-in_err-verb
returns-in_err-verb g c =
    let given = c.loop-command.invariant in
    let within : c.loop-command.command-index < length c.args.items.now.items = rw c.deref-command-items.ensures.value at c.loop-command-test.true in
    let item : c.command-item.result ≡ get_or c.args.items.now.items c.loop-command.command-index c.command-item.result = rw c.deref-command-items.ensures.value at c.command-item.is in
    let same : c.from_residual.result ≡ Err c.in_err-verb.field-0.0 = search rules in
    rw same (λ other. given.1
    ∙ each-refused (read_next g.A.Registers.reading) given.0 c.args.items.now.items c.loop-command.command-index c.command-item.result (refusal_text c.in_err-verb.field-0.0) within item
    (next-no_verb g.A.Registers.reading given.0 (view c.command-item.result) (refusal_text c.in_err-verb.field-0.0) (sym c.in_err-verb.ensures)))

pub returns-in_err-read_command : goal.returns-in_err-read_command
returns-in_err-read_command g c =
    let given = c.loop-command.invariant in
    let within : c.loop-command.command-index < length c.args.items.now.items = rw c.deref-command-items.ensures.value at c.loop-command-test.true in
    let item : c.command-item.result ≡ get_or c.args.items.now.items c.loop-command.command-index c.command-item.result = rw c.deref-command-items.ensures.value at c.command-item.is in
    let same : c.from_residual-in_err-read_command.result ≡ Err c.in_err-read_command.field-0.0 = search rules in
    rw same (λ other. given.1
    ∙ each-refused (read_next g.A.Registers.reading) given.0 c.args.items.now.items c.loop-command.command-index c.command-item.result (refusal_text c.in_err-read_command.field-0.0) within item
    (next-refused g.A.Registers.reading given.0 (view c.command-item.result) c.in_ok-verb.verb.now
    (refusal_text c.in_err-read_command.field-0.0) (sym c.in_ok-verb.ensures)
    (c.in_err-read_command.ensures other)))

pub returns : goal.returns
returns g c =
    let given = c.loop-command.invariant in
    let past : length c.args.items.now.items ≤ c.loop-command.command-index = rw c.deref-command-items.ensures.value at c.loop-command-test.false in
    (given.0, given.1 ∙ each-end (read_next g.A.Registers.reading) given.0 c.args.items.now.items c.loop-command.command-index past, given.2, given.3)
