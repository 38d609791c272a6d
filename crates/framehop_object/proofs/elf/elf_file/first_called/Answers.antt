use Rattle.std.proofs.Common.{◌∙◌, nat_eq, rules, tests}
use Rattle.std.specs.Cmp.Lexicographic.{pointwise}
use Rattle.std.proofs.lemmas.Iterator.{YieldsList-from_slice}
use Rattle.std.proofs.lemmas.Iterator.Search.{find_from_yields_List}
use Rattle.framehop_bytes.specs.String.{string_of}
use Rattle.framehop_object.specs.declared.elf.section_header.SectionHeader.{SectionHeader}
use Rattle.framehop_object.proofs.elf.elf_file.first_called.Goals as goal

pub returns : goal.returns
returns c =
    c.copied.ensures
    ∙ find_from_yields_List (λ (section : SectionHeader). pointwise nat_eq (string_of c.args.names.now section.sh_name) c.args.name.now) _ _ _ c.find.ensures.ran (YieldsList-from_slice c.args.sections.now cc)
    (λ x b q k. search (rules, tests))
