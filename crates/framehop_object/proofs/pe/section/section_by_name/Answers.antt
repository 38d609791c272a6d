use Rattle.std.proofs.Common.{◌∙◌, nat_eq, rules, tests}
use Rattle.std.specs.Cmp.Lexicographic.{pointwise}
use Rattle.std.proofs.lemmas.Iterator.{YieldsList-from_slice}
use Rattle.std.proofs.lemmas.Iterator.Search.{find_from_yields_List}
use Rattle.framehop_object.specs.Pe.Section.{name_of}
use Rattle.framehop_object.proofs.pe.section.section_by_name.Goals as goal

pub returns : goal.returns
returns c =
    c.copied.ensures
    ∙ find_from_yields_List (λ section. pointwise nat_eq (name_of section) c.args.name.now) _ _ _ c.find.ensures.ran (YieldsList-from_slice c.args.sections.now cc)
    (λ x b q k. search (rules, tests))
