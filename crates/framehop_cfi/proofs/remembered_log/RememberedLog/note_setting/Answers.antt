use Rattle.std.proofs.Common.{◌≡◌, sym, ◌∙◌, ap}
use Rattle.framehop_cfi.specs.RememberedLog.{undone, logged_rows}
use Rattle.framehop_cfi.proofs.RememberedLog.{logged_rows-changed, set-undone, add-undone}
use Rattle.framehop_cfi.proofs.remembered_log.RememberedLog.note_setting.Goals as goal
use Rattle.framehop_cfi.proofs.remembered_log.RememberedLog.note_setting.Goals.{in-Some, in-None}

pub returns-clause-kept : goal.returns-clause-kept
returns-clause-kept g c = λ rule rules set.
    let old = c.args.row.now.rules in
    let limits = g.S.UnwindContextStorage.limits in
    let back : undone c.match-place.change rules ≡ old = elim c.match-place.branch [
      | in-Some w ↦
          rw (w.change-is, w.registers.ensures)
          (set-undone c.args.register old limits rule rules w.in-Some.place _ (sym c.place.ensures.exact ∙ w.in-Some.is) set)
      | in-None w ↦
          rw w.change-is (add-undone c.args.register old limits rule rules (sym c.place.ensures.exact ∙ w.in-None.is) set)
    ] in
    rw (c.in_ok-push.ensures.items, c.self.view_is, logged_rows-changed c.args.self.now c.match-place.change rules)
    (ap (logged_rows c.args.self.now) back)
