use Rattle.framehop_cfi.specs.Context.{initial_of}
use Rattle.framehop_cfi.proofs.WhatIsRemembered.{set-becomes}
use Rattle.framehop_cfi.proofs.context.UnwindContext.set_rule.Goals as goal

pub returns-clause-exact : goal.returns-clause-exact
returns-clause-exact g c =
    let inside = c.self.inside in
    rw (← c.self.view_is)
    (set-becomes g.S.UnwindContextStorage.limits (initial_of inside.has_initial inside.initial) inside.row
    c.set_rule.result c.args.register c.args.rule c.set_rule.new.self inside.remembered c.keep_for_setting.new.self
    c.set_rule.ensures.rules c.set_rule.ensures.cfa c.in_ok-keep_for_setting.ensures.kept)
