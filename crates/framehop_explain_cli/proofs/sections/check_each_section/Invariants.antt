use Rattle.std.proofs.Common.{◌≡◌, ℕ, List, [], drop}
use Rattle.serde_json.specs.View.{items_view}
use Rattle.framehop_explain_cli.specs.Faults.{HasNames, names_after, test_items, test_one_of}
use Rattle.framehop_explain_cli.proofs.sections.check_each_section.Given as goal

abbrev pub invariant-loop-i : goal.invariant-loop-i
invariant-loop-i l =
    (before : List (List ℕ)) × HasNames l.names before
    × (test_items names_after (test_one_of l.list) 0 [] (items_view l.sections)
    ≡ test_items names_after (test_one_of l.list) l.i before (items_view (drop l.i l.sections)))
