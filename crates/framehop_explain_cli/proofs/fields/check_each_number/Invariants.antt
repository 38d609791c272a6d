use Rattle.std.proofs.Common.{◌≡◌, ◌≤◌, drop}
use Rattle.serde_json.specs.View.{items_view}
use Rattle.framehop_explain_cli.specs.Faults.{test_items, test_numbers_of, unwinders_after}
use Rattle.framehop_explain_cli.proofs.fields.check_each_number.Given as goal

abbrev pub invariant-loop-i : goal.invariant-loop-i
invariant-loop-i l = record {
  few : l.unwinders ≤ l.i;
  tested : test_items unwinders_after (test_numbers_of l.caches) 0 0 (items_view l.commands)
      ≡ test_items unwinders_after (test_numbers_of l.caches) l.i l.unwinders (items_view (drop l.i l.commands));
}
