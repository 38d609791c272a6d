use Rattle.std.proofs.Common.{Some}
use Rattle.framehop_cfi.proofs.WhatIsRemembered.{remove-becomes}
use Rattle.framehop_cfi.proofs.context.UnwindContext.restore.Goals as goal

pub returns-in_ok-keep_for_removal-in-None-clause-exact : goal.returns-in_ok-keep_for_removal-in-None-clause-exact
returns-in_ok-keep_for_removal-in-None-clause-exact g c =
    let inside = c.self.inside in
    rw (← c.self.view_is, c.if-not-self.false, ← c.register.ensures, c.in-None.is, ← c.self.view_is, c.if-not-self.false)
    (remove-becomes g.S.UnwindContextStorage.limits (Some inside.initial) inside.row
    c.args.register c.remove_rule.new.self inside.remembered c.keep_for_removal.new.self c.remove_rule.ensures
    c.in_ok-keep_for_removal-in-None.ensures.kept)
