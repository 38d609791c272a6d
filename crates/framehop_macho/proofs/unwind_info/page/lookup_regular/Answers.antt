use Rattle.std.proofs.Common.{sym, ◌∙◌, ◌+◌, arith, ◌<◌, ◌^◌}
use Rattle.framehop_macho.proofs.Rows.{length-regular_starts, next-regular_starts, unwrap_or-fits}
use Rattle.framehop_macho.proofs.unwind_info.page.lookup_regular.Goals as goal

pub overflow_cast-function-2 : goal.overflow_cast-function-2
overflow_cast-function-2 c =
    let law = c.in_ok-row.ensures.law in
    let page : c.from-2.result < 2 ^ 32 = omega (arith, c.from-2.ensures) in
    let fits = unwrap_or-fits c.in_ok-row.row.next c.from-2.result page (λ start is.
    next-regular_starts c.args.entries.now (c.in_ok-row.row.index + 1) start c.type_inv.entries (sym law.followed ∙ is)) in
    omega (arith, c.unwrap_or.ensures, fits)

pub overflow_mul-row : goal.overflow_mul-row
overflow_mul-row c = omega (arith, c.in_ok-row.ensures.law.within, length-regular_starts c.args.entries.now)

pub overflow_add-row : goal.overflow_add-row
overflow_add-row c = omega (arith, c.in_ok-row.ensures.law.within, length-regular_starts c.args.entries.now)

pub u32_at-requires : goal.u32_at-requires
u32_at-requires c = omega (arith, c.in_ok-row.ensures.law.within, length-regular_starts c.args.entries.now)
