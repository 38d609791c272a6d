use Rattle.std.proofs.Common.{arith}
use Rattle.framehop_cfi.proofs.Table.{length-starts_of}
use Rattle.framehop_cfi.proofs.header.Table.fde_offset_for_address.Goals as goal

pub place-requires : goal.place-requires
place-requires c =
    let header = c.args.self.now in
    omega (arith, length-starts_of header.bases header.layout header.bytes.now, c.count-rows.ensures.count, c.count-rows.ensures.some)

pub fde_address-fde-requires : goal.fde_address-fde-requires
fde_address-fde-requires c =
    let header = c.args.self.now in
    omega (arith, length-starts_of header.bases header.layout header.bytes.now, c.place.ensures.law.within)

pub returns-clause-law : goal.returns-clause-law
returns-clause-law c = rw c.place.ensures.reached at c.place.ensures.law
