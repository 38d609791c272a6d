use Rattle.std.proofs.Common.{sym, ◌∙◌}
use Rattle.framehop_cfi.proofs.WhatIsRemembered.{keep-copies-set, keep-log}
use Rattle.framehop_cfi.proofs.remembered.RememberedRows.keep_for_setting.Goals as goal

pub returns-in-Some-clause-kept : goal.returns-in-Some-clause-kept
returns-in-Some-clause-kept g c =
    let inside = c.self.inside in
    rw (← c.self.view_is)
    (keep-copies-set c.in-Some.field-0 inside.log g.S.UnwindContextStorage.limits (sym c.limits.ensures ∙ c.in-Some.is)
    c.keep.result c.args.register inside.copies c.keep.new.self c.args.row.now.rules c.keep.ensures.kept)

pub returns-in-None-clause-kept : goal.returns-in-None-clause-kept
returns-in-None-clause-kept g c =
    let inside = c.self.inside in
    rw (← c.self.view_is)
    (keep-log inside.copies g.S.UnwindContextStorage.limits (sym c.limits.ensures ∙ c.in-None.is)
    c.keep_for_setting.result c.args.register inside.log c.keep_for_setting.new.self c.args.row.now.rules c.keep_for_setting.ensures.kept)
