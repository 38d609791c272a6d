use Rattle.std.proofs.Common.{refl}
use Rattle.framehop_cfi.specs.Context.{initial_of}
use Rattle.framehop_cfi.specs.Remembered.{remembered_rows}
use Rattle.framehop_cfi.proofs.WhatIsRemembered.{push-becomes}
use Rattle.framehop_cfi.proofs.context.UnwindContext.remember.Goals as goal

pub returns-clause-exact : goal.returns-clause-exact
returns-clause-exact g c =
    let inside = c.self.inside in
    let limits = g.S.UnwindContextStorage.limits in
    rw (← c.self.view_is)
    (push-becomes limits (initial_of inside.has_initial inside.initial) inside.row c.push.result inside.row.cfa
    (remembered_rows limits inside.remembered inside.row.rules) (remembered_rows limits c.push.new.self inside.row.rules)
    (rw (← c.cfa.ensures) (c.push.ensures.exact inside.row.rules)) refl)
