use Rattle.std.proofs.Common.{◌≡◌, drop}
use Rattle.serde_json.specs.View.{items_view}
use Rattle.framehop_explain_cli.specs.Faults.{test_list, test_items, test_numbered_command}
use Rattle.framehop_explain_cli.proofs.fields.check_each_command.Given as goal

abbrev pub invariant-loop-i : goal.invariant-loop-i
invariant-loop-i l =
    test_list (test_numbered_command l.arch) (items_view l.commands)
    ≡ test_items {S = Unit {0}} (λ known value. known) (λ number known value. test_numbered_command l.arch number value) l.i tt (items_view (drop l.i l.commands))
