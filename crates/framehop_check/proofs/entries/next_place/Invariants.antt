use Rattle.std.proofs.Common.{◌≡◌, ◌≤◌, ◌-◌, List, length}
use Rattle.framehop_check.specs.declared.entries.Entry.{Entry}
use Rattle.framehop_check.specs.Entries.{AreEntries}
use Rattle.framehop_check.proofs.entries.next_place.Given as goal

-- what was passed is no entry
abbrev pub invariant-loop-at : goal.invariant-loop-at
invariant-loop-at l = record {
  size : l.size ≡ length l.section.bytes;
  further : l.initial.at ≤ l.at;
  passed : (entries : List Entry) → AreEntries l.section l.at entries → AreEntries l.section l.initial.at entries;
}

abbrev pub decreases-loop-at : goal.decreases-loop-at
decreases-loop-at l = l.size - l.at
