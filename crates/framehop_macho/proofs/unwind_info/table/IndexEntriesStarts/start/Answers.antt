use Rattle.std.proofs.Common.{arith, sym, ◌∙◌}
use Rattle.framehop_macho.proofs.Rows.{length-index_starts, get_or-index_starts}
use Rattle.framehop_macho.proofs.unwind_info.table.IndexEntriesStarts.start.Goals as goal

pub overflow_mul-index : goal.overflow_mul-index
overflow_mul-index c = omega (arith, length-index_starts c.args.self.now.bytes.now)

pub u32_at-requires : goal.u32_at-requires
u32_at-requires c = omega (arith, length-index_starts c.args.self.now.bytes.now)

pub returns : goal.returns
returns c =
    let table = c.args.self.now.bytes.now in
    c.from.ensures ∙ c.u32_at.ensures ∙ sym (get_or-index_starts table c.args.index (omega (arith, length-index_starts table)))
