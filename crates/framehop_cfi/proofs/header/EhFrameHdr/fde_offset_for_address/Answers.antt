use Rattle.std.proofs.Common.{sym, ◌∙◌, ap}
use Rattle.framehop_cfi.specs.Header.{Header, fde_offset_in, fde_offset_by}
use Rattle.framehop_bytes.specs.Place.{place_of}
use Rattle.framehop_cfi.specs.Header.{starts_of}
use Rattle.framehop_cfi.proofs.header.EhFrameHdr.fde_offset_for_address.Goals as goal

pub returns-clause-exact : goal.returns-clause-exact
unfolding fde_offset_in
returns-clause-exact c =
    let table = c.self.inside.table in
    let header : Header = record { bases = table.bases; bytes = table.bytes.now } in
    rw (← c.self.view_is) (c.fde_offset_for_address.ensures.exact ∙ sym (ap (λ layout. fde_offset_by header layout c.args.address) c.self.invariant))

pub returns-clause-law : goal.returns-clause-law
returns-clause-law c =
    let table = c.self.inside.table in
    rw (← c.self.view_is) (record {
      layout = table.layout;
      row = place_of (starts_of table.bases table.layout table.bytes.now) c.args.address;
      is_layout = c.self.invariant;
      is_place = c.fde_offset_for_address.ensures.law;
      is_offset = sym c.fde_offset_for_address.ensures.exact;
    })
