use Rattle.std.proofs.Common.{◌∙◌, [], ap, sym, refl, rules, Some, Err}
use Rattle.serde_json.specs.View.{view}
use Rattle.framehop_explain_cli.specs.Faults.{fault_view, within, told_as, names_after, test_one_of}
use Rattle.framehop_explain_cli.proofs.FaultLemmas.{tests-more, tests-wrong, tests-end}
use Rattle.framehop_explain_cli.proofs.sections.check_each_section.Goals as goal

pub loop-i-init : goal.loop-i-init
loop-i-init c = ([], search rules, refl)

pub loop-i-preserved : goal.loop-i-preserved
loop-i-preserved c =
    let i = c.loop-i.i in
    let list = c.args.list.now in
    let section = c.index-sections-i.result in
    let given = c.loop-i.invariant in
    let passed = rw c.in-Ok.is at (c.in_ok-check_section.ensures given.0 given.1) in (
      names_after given.0 (view section),
      passed.1,
      given.2
          ∙ tests-more names_after (test_one_of list) i given.0 c.args.sections.now i section c.loop-i-test.true c.index-sections-i.is
          (ap (told_as (within list (Some i))) (sym passed.0)),
    )

pub returns-in-Err : goal.returns-in-Err
returns-in-Err c =
    let i = c.loop-i.i in
    let list = c.args.list.now in
    let section = c.index-sections-i.result in
    let given = c.loop-i.invariant in
    let failed = rw c.in-Err.is at (c.in_ok-check_section.ensures given.0 given.1) in
    ap (λ fault. Err fault) c.below.ensures
    ∙ sym (given.2
    ∙ tests-wrong names_after (test_one_of list) i given.0 c.args.sections.now i section (within list (Some i) (fault_view c.in-Err.fault))
    c.loop-i-test.true c.index-sections-i.is (ap (told_as (within list (Some i))) (sym failed.0)))

pub returns : goal.returns
returns c =
    let given = c.loop-i.invariant in
    sym (given.2 ∙ tests-end names_after (test_one_of c.args.list.now) c.loop-i.i given.0 c.args.sections.now c.loop-i.i c.loop-i-test.false)
