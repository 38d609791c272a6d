use Rattle.std.proofs.Common.{sym, ◌∙◌, ap, refl}
use Rattle.framehop_cfi.specs.RememberedLog.{logged_rows}
use Rattle.framehop_cfi.proofs.RememberedLog.{logged_rows-changed, removal-undone, without-none}
use Rattle.framehop_cfi.proofs.remembered_log.RememberedLog.keep_for_removal.Goals as goal

pub returns-in_ok-push-in-Some-clause-kept : goal.returns-in_ok-push-in-Some-clause-kept
returns-in_ok-push-in-Some-clause-kept g c =
    let here = sym c.place.ensures.exact ∙ c.in-Some.is in
    rw (c.in_ok-push-in-Some.ensures.items, c.self.view_is, c.registers.ensures, logged_rows-changed)
    (ap (logged_rows c.args.self.now) (removal-undone c.args.register c.args.row.now.rules c.in-Some.place _ here c.in-Some.ensures.within))

pub returns-in-None-clause-kept : goal.returns-in-None-clause-kept
returns-in-None-clause-kept g c =
    rw (without-none c.args.register c.args.row.now.rules (sym c.place.ensures.exact ∙ c.in-None.is)) refl
