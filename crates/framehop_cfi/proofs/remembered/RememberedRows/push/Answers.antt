use Rattle.std.proofs.Common.{sym, ◌∙◌}
use Rattle.framehop_cfi.proofs.WhatIsRemembered.{push-copies}
use Rattle.framehop_cfi.proofs.remembered.RememberedRows.push.Goals as goal

pub returns-in-Some-clause-exact : goal.returns-in-Some-clause-exact
returns-in-Some-clause-exact g c = λ rules.
    let inside = c.self.inside in
    rw (← c.self.view_is)
    (push-copies c.in-Some.field-0 inside.log g.S.UnwindContextStorage.limits (sym c.limits.ensures ∙ c.in-Some.is)
    c.push.result c.args.cfa inside.copies c.push.new.self c.push.ensures.exact rules)
