use Rattle.std.proofs.Common.{sym, ◌∙◌}
use Rattle.framehop_cfi.proofs.WhatIsRemembered.{pop-copies}
use Rattle.framehop_cfi.proofs.remembered.RememberedRows.pop.Goals as goal

pub returns-in-Some-clause-popped : goal.returns-in-Some-clause-popped
returns-in-Some-clause-popped g c =
    let inside = c.self.inside in
    rw (← c.self.view_is)
    (pop-copies c.in-Some.field-0 inside.log g.S.UnwindContextStorage.limits (sym c.limits.ensures ∙ c.in-Some.is)
    c.pop.result inside.copies c.pop.new.self c.args.row.now.rules c.pop.new.row c.pop.ensures.popped)
