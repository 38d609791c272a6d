use Rattle.std.proofs.Common.{◌≡◌, drop}
use Rattle.serde_json.specs.View.{items_view}
use Rattle.framehop_explain_cli.specs.Faults.{test_list, test_items, test_word}
use Rattle.framehop_explain_cli.proofs.fields.check_each_word.Given as goal

abbrev pub invariant-loop-i : goal.invariant-loop-i
invariant-loop-i l =
    test_list test_word (items_view l.words)
    ≡ test_items {S = Unit {0}} (λ known value. known) (λ number known value. test_word number value) l.i tt (items_view (drop l.i l.words))
