use Rattle.std.proofs.Common.{◌≡◌, length}
use Rattle.framehop_cfi.specs.RememberedLog.{logged_rows, BeginsWithRow}
use Rattle.framehop_cfi.proofs.remembered_log.RememberedLog.pop.Given as goal

abbrev pub invariant-loop-note : goal.invariant-loop-note
invariant-loop-note g l = record {
  rows : logged_rows l.self-inside.notes.items l.row.rules ≡ logged_rows l.initial.self-inside.notes.items l.initial.row.rules;
  begins : BeginsWithRow l.self-inside.notes.items;
}

abbrev pub decreases-loop-note : goal.decreases-loop-note
decreases-loop-note g l = length l.self-inside.notes.items
