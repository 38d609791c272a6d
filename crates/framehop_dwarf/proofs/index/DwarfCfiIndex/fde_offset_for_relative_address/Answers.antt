use Rattle.std.proofs.Common.{◌∙◌, ap}
use Rattle.framehop_dwarf.specs.Index.{fde_offset_for}
use Rattle.framehop_dwarf.proofs.Order.{fde-for}
use Rattle.framehop_dwarf.proofs.index.DwarfCfiIndex.fde_offset_for_relative_address.Goals as goal

pub returns-clause-law : goal.returns-clause-law
returns-clause-law c =
    fde-for c.args.self.now c.args.rel_lookup_address c.found_before.result
    (c.found_before.ensures ∙ ap (λ tree. fde_offset_for tree c.args.rel_lookup_address) (c.deref-2.ensures.value ∙ c.self.view_is))
