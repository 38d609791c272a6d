use Rattle.std.proofs.Common.{◌∙◌, ap, sym, codes, Err}
use Rattle.framehop_explain_cli.specs.declared.fault.Cause.TheVariants.{NoAddress}
use Rattle.framehop_explain_cli.specs.Faults.{right_word, test_word, wrong_item}
use Rattle.framehop_explain_cli.proofs.FaultLemmas.{tests-more, tests-wrong, tests-end}
use Rattle.framehop_explain_cli.proofs.fields.check_each_word.Goals as goal

pub loop-i-preserved : goal.loop-i-preserved
loop-i-preserved c =
    let i = c.loop-i.i in
    c.loop-i.invariant
    ∙ tests-more {S = Unit {0}} (λ known value. known) (λ number known value. test_word number value) i tt c.args.words.now i c.index-words-i.result
    c.loop-i-test.true c.index-words-i.is (ap (right_word i) (sym c.in-Some.ensures))

pub returns-in_default : goal.returns-in_default
returns-in_default c =
    let i = c.loop-i.i in
    ap (λ fault. Err fault) c.of_item.ensures
    ∙ sym (c.loop-i.invariant
    ∙ tests-wrong {S = Unit {0}} (λ known value. known) (λ number known value. test_word number value) i tt c.args.words.now i c.index-words-i.result
    (wrong_item (codes "words") i NoAddress) c.loop-i-test.true c.index-words-i.is (ap (right_word i) (sym c.in_default.ensures)))

pub returns : goal.returns
returns c =
    let i = c.loop-i.i in
    sym (c.loop-i.invariant ∙ tests-end {S = Unit {0}} (λ known value. known) (λ number known value. test_word number value) i tt c.args.words.now i c.loop-i-test.false)
