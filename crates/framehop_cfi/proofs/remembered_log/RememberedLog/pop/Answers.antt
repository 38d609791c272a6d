use Rattle.std.proofs.Common.{sym}
use Rattle.framehop_cfi.proofs.RememberedLog.{logged_rows-changed, logged_rows-remembered, begins-fewer}
use Rattle.framehop_cfi.proofs.remembered_log.RememberedLog.pop.Goals as goal

pub returns-in-Remembered-clause-popped : goal.returns-in-Remembered-clause-popped
returns-in-Remembered-clause-popped g c =
    rw (c.set_cfa.ensures, ← c.self.view_is, ← c.loop-note.invariant.rows, c.in-Some.ensures.items, c.in-Remembered.is)
    (logged_rows-remembered c.pop.new.self.items c.in-Remembered.cfa c.loop-note.row.rules)

pub loop-note-preserved : goal.loop-note-preserved
loop-note-preserved g c = record {
  rows =
      rw (c.in_ok-undo-in-Changed.ensures.ok, ← c.loop-note.invariant.rows, c.in-Some.ensures.items, c.in-Changed.is)
      (sym (logged_rows-changed c.pop.new.self.items c.in-Changed.change c.loop-note.row.rules));
  begins = begins-fewer c.pop.new.self.items c.in-Some.note (rw c.in-Some.ensures.items at c.loop-note.invariant.begins);
}
