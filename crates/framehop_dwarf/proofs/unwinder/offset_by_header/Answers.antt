use Rattle.std.proofs.Common.{◌+◌, ◌∙◌}
use Rattle.framehop_dwarf.proofs.Saturated.{fde_offset_in-cut, row-cut}
use Rattle.framehop_dwarf.proofs.unwinder.offset_by_header.Goals as goal

pub returns-clause-exact : goal.returns-clause-exact
returns-clause-exact c =
    let cut = rw c.from.ensures at c.saturating_add-address.ensures in
    c.fde_offset_for_address.ensures.exact ∙ fde_offset_in-cut c.args.header.now (c.args.base_svma + c.args.relative_address) c.saturating_add-address.result cut

pub returns-clause-law : goal.returns-clause-law
returns-clause-law c =
    let cut = rw c.from.ensures at c.saturating_add-address.ensures in
    row-cut c.args.header.now (c.args.base_svma + c.args.relative_address) c.saturating_add-address.result c.fde_offset_for_address.result cut c.fde_offset_for_address.ensures.law
