use Rattle.std.proofs.Common.{◌∙◌, ap, sym, Err}
use Rattle.framehop_explain_cli.specs.Faults.{fault_view, in_command, told_as, test_numbered_command}
use Rattle.framehop_explain_cli.proofs.FaultLemmas.{tests-more, tests-wrong, tests-end}
use Rattle.framehop_explain_cli.proofs.fields.check_each_command.Goals as goal

pub loop-i-preserved : goal.loop-i-preserved
loop-i-preserved c =
    let i = c.loop-i.i in
    let passed = rw c.in-Ok.is at c.in_ok-check_command.ensures in
    c.loop-i.invariant
    ∙ tests-more {S = Unit {0}} (λ known value. known) (λ number known value. test_numbered_command c.args.arch.now number value) i tt c.args.commands.now i
    c.index-commands-i.result c.loop-i-test.true c.index-commands-i.is (ap (told_as (in_command i)) (sym passed))

pub returns-in-Err : goal.returns-in-Err
returns-in-Err c =
    let i = c.loop-i.i in
    let failed = rw c.in-Err.is at c.in_ok-check_command.ensures in
    ap (λ fault. Err fault) c.in_command.ensures
    ∙ sym (c.loop-i.invariant
    ∙ tests-wrong {S = Unit {0}} (λ known value. known) (λ number known value. test_numbered_command c.args.arch.now number value) i tt c.args.commands.now i
    c.index-commands-i.result (in_command i (fault_view c.in-Err.fault)) c.loop-i-test.true c.index-commands-i.is (ap (told_as (in_command i)) (sym failed)))

pub returns : goal.returns
returns c =
    let i = c.loop-i.i in
    sym (c.loop-i.invariant
    ∙ tests-end {S = Unit {0}} (λ known value. known) (λ number known value. test_numbered_command c.args.arch.now number value) i tt c.args.commands.now i c.loop-i-test.false)
