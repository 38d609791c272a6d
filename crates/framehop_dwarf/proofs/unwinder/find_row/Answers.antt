use Rattle.std.proofs.Common.{◌+◌, sym, arith}
use Rattle.framehop_dwarf.proofs.FoundRow.{past-end}
use Rattle.framehop_dwarf.proofs.unwinder.find_row.Goals as goal

pub returns-in-None-clause-found : goal.returns-in-None-clause-found
returns-in-None-clause-found g c =
    let past = rw c.from.ensures at c.in-None.ensures in
    past-end g.S.UnwindContextStorage.limits c.args.section.now (c.args.base_svma + c.args.rel_lookup_address) c.args.fde_offset c.in-Ok.fde (sym c.in-Ok.ensures.exact) (omega (arith, past))
