use Rattle.std.proofs.Common.{ℕ, ◌≡◌, ◌≤◌, ◌+◌, ◌-◌, ◌++◌, length}
use Rattle.framehop_check.specs.Rows.{claim_at}
use Rattle.framehop_check.specs.Check.{item_at, items_from, all_from, items_of, all_of, first_pass, alarms_from, notes_from}
use Rattle.framehop_check.specs.Counts.{counted}
use Rattle.framehop_check.proofs.check.check_code.Given as goal

-- what is told so far and what is left to be told is what is told of all
abbrev pub invariant-loop-at : goal.invariant-loop-at
invariant-loop-at g l =
    let item = item_at g.C.Code.instruction (claim_at l.spans) l.start l.code in
    let size = length l.code in
    (n : ℕ) × (size ≤ n + l.at)
    × (l.report.alarms.items ++ alarms_from g.C.Code.entry l.pass (items_from item size n l.at)
    ≡ l.initial.report.alarms.items ++ alarms_from g.C.Code.entry (first_pass l.start) (items_of g.C.Code.instruction (claim_at l.spans) l.start l.code))
    × (l.report.notes.items ++ notes_from l.pass (items_from item size n l.at)
    ≡ l.initial.report.notes.items ++ notes_from (first_pass l.start) (items_of g.C.Code.instruction (claim_at l.spans) l.start l.code))
    × (counted l.report.counts l.pass (items_from item size n l.at)
    ≡ counted l.initial.report.counts (first_pass l.start) (items_of g.C.Code.instruction (claim_at l.spans) l.start l.code))
    × (all_from item size n l.at ≡ all_of g.C.Code.instruction (claim_at l.spans) l.start l.code)

abbrev pub decreases-loop-at : goal.decreases-loop-at
decreases-loop-at g l = length l.code - l.at
