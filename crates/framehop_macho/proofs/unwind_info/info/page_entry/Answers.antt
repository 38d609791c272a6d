use Rattle.std.proofs.Common.{◌+◌, arith, sym, ◌∙◌}
use Rattle.framehop_macho.proofs.Rows.{length-index_starts, next-index_starts}
use Rattle.framehop_macho.proofs.unwind_info.info.page_entry.Goals as goal

pub overflow_mul-row : goal.overflow_mul-row
overflow_mul-row c = omega (arith, c.in_ok-row.ensures.law.within, length-index_starts c.args.index.now)

pub overflow_add-row : goal.overflow_add-row
overflow_add-row c = omega (arith, c.in_ok-row.ensures.law.within, length-index_starts c.args.index.now)

pub u32_at-requires : goal.u32_at-requires
u32_at-requires c = omega (arith, c.in_ok-row.ensures.law.within, length-index_starts c.args.index.now)

pub overflow_cast-result-2 : goal.overflow_cast-result-2
overflow_cast-result-2 c =
    let law = c.in_ok-row.ensures.law in
    let fits = next-index_starts c.args.index.now (c.in_ok-row.row.index + 1) c.in_ok-next.next c.type_inv.index (sym law.followed ∙ c.in_ok-next.was) in
    omega (arith, fits)
