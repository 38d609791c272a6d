use Rattle.std.proofs.Common.{◌∙◌, sym}
use Rattle.framehop_walk.proofs.NamedSections.{range_of-entries_view}
use Rattle.framehop_walk.proofs.lookup.range_under.Goals as goal

pub returns-in-Some-svma : goal.returns-in-Some-svma
returns-in-Some-svma c = sym (range_of-entries_view c.args.name.now c.args.sections.now _ c.in-Some.ensures ∙ c.in-Some-svma.is)

pub returns-in-None-svma : goal.returns-in-None-svma
returns-in-None-svma c = sym (range_of-entries_view c.args.name.now c.args.sections.now _ c.in-Some.ensures ∙ c.in-None-svma.is)

pub returns-in-None : goal.returns-in-None
returns-in-None c = sym (range_of-entries_view c.args.name.now c.args.sections.now _ c.in-None.ensures)
