use Rattle.std.proofs.Common.{arith}
use Rattle.framehop_macho.proofs.Rows.{length-compressed_starts}
use Rattle.framehop_macho.proofs.unwind_info.page.lookup_compressed.Goals as goal

pub overflow_mul-row : goal.overflow_mul-row
overflow_mul-row c =
    omega (arith, c.in-Some.ensures.law.within, length-compressed_starts c.args.entries.now.page_address c.args.entries.now.bytes.now)

pub u32_at-number-requires : goal.u32_at-number-requires
u32_at-number-requires c =
    omega (arith, c.in-Some.ensures.law.within, length-compressed_starts c.args.entries.now.page_address c.args.entries.now.bytes.now)
