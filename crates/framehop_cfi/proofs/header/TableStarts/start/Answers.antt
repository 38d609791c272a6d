use Rattle.std.proofs.Common.{arith, sym, ◌∙◌, ◌<◌}
use Rattle.framehop_cfi.specs.Header.{start_of_row}
use Rattle.framehop_cfi.proofs.Table.{length-starts_of, get_or-starts_of}
use Rattle.framehop_cfi.proofs.header.TableStarts.start.Goals as goal

pub row-requires : goal.row-requires
row-requires c =
    let header = c.args.self.now in
    omega (arith, c.requires, length-starts_of header.bases header.layout header.bytes.now)

pub returns : goal.returns
unfolding start_of_row
returns c =
    let header = c.args.self.now in
    let within : c.args.index < header.layout.count = omega (arith, c.requires, length-starts_of header.bases header.layout header.bytes.now) in
    rw c.row.ensures.row at c.number_at.ensures ∙ sym (get_or-starts_of header.bases header.layout header.bytes.now c.args.index within)
