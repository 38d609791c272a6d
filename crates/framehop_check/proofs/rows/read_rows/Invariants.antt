use Rattle.std.proofs.Common.{◌-◌}
use Rattle.framehop_cfi.specs.RowCursor.{HasReached}
use Rattle.framehop_check.proofs.RowLemmas.{Spanned}
use Rattle.framehop_check.proofs.rows.read_rows.Given as goal

abbrev pub invariant-loop-cursor : goal.invariant-loop-cursor
invariant-loop-cursor g l =
    HasReached g.S.UnwindContextStorage.limits l.section l.fde l.cursor.next l.cursor.location l.context
    × Spanned g.C.Code.numbered g.C.Code.return_column g.S.UnwindContextStorage.limits l.section l.fde l.cursor.location l.spans.items

abbrev pub decreases-loop-cursor : goal.decreases-loop-cursor
decreases-loop-cursor g l = l.end - l.cursor.location
