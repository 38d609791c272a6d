use Rattle.framehop_cfi.specs.Context.{initial_of}
use Rattle.framehop_cfi.specs.Remembered.{remembered_rows}
use Rattle.framehop_cfi.proofs.WhatIsRemembered.{pop-becomes}
use Rattle.framehop_cfi.proofs.context.UnwindContext.restore_state.Goals as goal

pub returns-clause-exact : goal.returns-clause-exact
returns-clause-exact g c =
    let inside = c.self.inside in
    let limits = g.S.UnwindContextStorage.limits in
    rw (← c.self.view_is)
    (pop-becomes c.pop.result (initial_of inside.has_initial inside.initial) inside.row c.pop.new.row
    (remembered_rows limits inside.remembered inside.row.rules) (remembered_rows limits c.pop.new.self c.pop.new.row.rules)
    c.pop.ensures.popped c.pop.ensures.none)
