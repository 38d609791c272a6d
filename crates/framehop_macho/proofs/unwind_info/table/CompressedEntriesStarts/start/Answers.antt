use Rattle.std.proofs.Common.{◌<◌, ◌+◌, ◌/◌, ◌%◌, ◌^◌, length, arith, sym, ap, ◌∙◌}
use Rattle.framehop_macho.proofs.Rows.{length-compressed_starts, get_or-compressed_starts, low_bits}
use Rattle.framehop_macho.proofs.unwind_info.table.CompressedEntriesStarts.start.Goals as goal

pub overflow_mul-index : goal.overflow_mul-index
overflow_mul-index c = omega (arith, length-compressed_starts c.args.self.now.page_address c.args.self.now.bytes.now)

pub u32_at-requires : goal.u32_at-requires
u32_at-requires c = omega (arith, length-compressed_starts c.args.self.now.page_address c.args.self.now.bytes.now)

pub returns : goal.returns
returns c =
    let page = c.args.self.now.page_address in
    let table = c.args.self.now.bytes.now in
    let below : c.args.index < length table / 4 = omega (arith, length-compressed_starts page table) in
    ap (λ n. n + c.from-2.result) c.from.ensures
    ∙ ap (λ n. page + n) (c.from-2.ensures ∙ low_bits c.u32_at.result ∙ ap (λ n. n % 2 ^ 24) c.u32_at.ensures)
    ∙ sym (get_or-compressed_starts page table c.args.index below)
