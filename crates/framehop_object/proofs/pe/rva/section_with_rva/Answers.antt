use Rattle.std.proofs.Common.{◌∙◌, rules, tests}
use Rattle.std.proofs.lemmas.Iterator.{YieldsList-from_slice}
use Rattle.std.proofs.lemmas.Iterator.Search.{find_from_yields_List}
use Rattle.framehop_object.specs.Pe.Rva.{holds}
use Rattle.framehop_object.proofs.pe.rva.section_with_rva.Goals as goal

pub returns-clause-exact : goal.returns-clause-exact
returns-clause-exact c =
    c.copied.ensures
    ∙ find_from_yields_List (holds c.args.rva c.args.size) _ _ _ c.find.ensures.ran (YieldsList-from_slice c.args.sections.now cc)
    (λ x b q k. search (rules, tests))
