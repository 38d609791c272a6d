use Rattle.std.proofs.Common.{ℕ, ◌≡◌, ◌≤◌, ◌+◌, ◌-◌, ◌++◌, length, pos}
use Rattle.framehop_pe.specs.Info.{read_by}
use Rattle.framehop_check.specs.Check.{items_from, first_pass, alarms_from, notes_from}
use Rattle.framehop_check.specs.Counts.{counted}
use Rattle.framehop_check.specs.Prolog.{prolog_item, prolog_items}
use Rattle.framehop_check.proofs.prolog.check_instructions.Given as goal

-- what is told so far and what is left to be told is what is told of all
abbrev pub invariant-loop-at : goal.invariant-loop-at
invariant-loop-at l =
    let item = prolog_item (read_by l.info) l.begin l.code in
    let size = length l.code in
    (n : ℕ) × (size ≤ n + l.at)
    × (l.report.alarms.items ++ alarms_from (pos 8) l.pass (items_from item size n l.at)
    ≡ l.initial.report.alarms.items ++ alarms_from (pos 8) (first_pass l.begin) (prolog_items (read_by l.info) l.begin l.code))
    × (l.report.notes.items ++ notes_from l.pass (items_from item size n l.at)
    ≡ l.initial.report.notes.items ++ notes_from (first_pass l.begin) (prolog_items (read_by l.info) l.begin l.code))
    × (counted l.report.counts l.pass (items_from item size n l.at)
    ≡ counted l.initial.report.counts (first_pass l.begin) (prolog_items (read_by l.info) l.begin l.code))

abbrev pub decreases-loop-at : goal.decreases-loop-at
decreases-loop-at l = length l.code - l.at
