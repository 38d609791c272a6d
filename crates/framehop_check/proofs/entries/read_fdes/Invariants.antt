use Rattle.std.proofs.Common.{◌≡◌, ◌-◌, ◌++◌, List, length}
use Rattle.std.specs.Io.Iter.{u64_saturate}
use Rattle.framehop_check.specs.declared.entries.Entry.{Entry}
use Rattle.framehop_check.specs.Entries.{AreEntries, fdes_of, unreadable_in}
use Rattle.framehop_check.proofs.entries.read_fdes.Given as goal

-- what was read so far, and the entries from here on make all
abbrev pub invariant-loop-at : goal.invariant-loop-at
invariant-loop-at l =
    (before : List Entry) × ((entries : List Entry) → AreEntries l.section l.at entries → AreEntries l.section 0 (before ++ entries))
    × (l.fdes.list.items ≡ fdes_of before) × (l.fdes.unreadable ≡ u64_saturate (unreadable_in before)) × (l.cies ≡ l.section)

abbrev pub decreases-loop-at : goal.decreases-loop-at
decreases-loop-at l = length l.section.bytes - l.at
