use Rattle.std.proofs.Common.{sym, ◌∙◌}
use Rattle.framehop_cfi.specs.Row.{without_rule}
use Rattle.framehop_cfi.proofs.WhatIsRemembered.{keep-copies}
use Rattle.framehop_cfi.proofs.remembered.RememberedRows.keep_for_removal.Goals as goal

pub returns-in-Some-clause-kept : goal.returns-in-Some-clause-kept
returns-in-Some-clause-kept g c =
    let inside = c.self.inside in
    let rules = c.args.row.now.rules in
    rw (← c.self.view_is)
    (keep-copies c.in-Some.field-0 inside.log g.S.UnwindContextStorage.limits (sym c.limits.ensures ∙ c.in-Some.is)
    c.keep.result inside.copies c.keep.new.self rules (without_rule c.args.register rules) c.keep.ensures.kept)
