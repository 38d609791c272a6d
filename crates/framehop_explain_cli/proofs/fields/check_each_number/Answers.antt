use Rattle.std.proofs.Common.{◌+◌, ◌∙◌, ap, sym, arith, Err}
use Rattle.framehop_explain_cli.specs.Faults.{fault_view, in_command, told_as, test_numbers_of, unwinders_after}
use Rattle.framehop_explain_cli.proofs.FaultLemmas.{tests-more, tests-wrong, tests-end}
use Rattle.framehop_explain_cli.proofs.fields.check_each_number.Goals as goal

pub loop-i-preserved : goal.loop-i-preserved
loop-i-preserved c =
    let i = c.loop-i.i in
    let command = c.index-commands-i.result in
    let made = ap (λ n. c.loop-i.unwinders + n) c.unwinders_made-unwinders.ensures.exact in
    record {
      few = omega (arith, c.unwinders_made-unwinders.ensures.few);
      tested = rw made (c.loop-i.invariant.tested
          ∙ tests-more unwinders_after (test_numbers_of c.args.caches) i c.loop-i.unwinders c.args.commands.now i command
          c.loop-i-test.true c.index-commands-i.is (ap (told_as (in_command i)) (sym c.in-Ok.ensures)));
    }

pub returns-in-Err : goal.returns-in-Err
returns-in-Err c =
    let i = c.loop-i.i in
    ap (λ fault. Err fault) c.in_command.ensures
    ∙ sym (c.loop-i.invariant.tested
    ∙ tests-wrong unwinders_after (test_numbers_of c.args.caches) i c.loop-i.unwinders c.args.commands.now i c.index-commands-i.result
    (in_command i (fault_view c.in-Err.fault)) c.loop-i-test.true c.index-commands-i.is (ap (told_as (in_command i)) (sym c.in-Err.ensures)))

pub returns : goal.returns
returns c =
    sym (c.loop-i.invariant.tested
    ∙ tests-end unwinders_after (test_numbers_of c.args.caches) c.loop-i.i c.loop-i.unwinders c.args.commands.now c.loop-i.i c.loop-i-test.false)
