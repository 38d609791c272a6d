use Rattle.std.proofs.Common.{◌++◌, Ok, map, ap}
use Rattle.framehop_dump_files.specs.Minidump.Memory.{range_at, ranges_of}
use Rattle.framehop_dump_files.proofs.RangeLemmas.{made}
use Rattle.framehop_dump_files.proofs.minidump.memory.read_memory.Goals as goal

pub returns-in-Some : goal.returns-in-Some
unfolding ranges_of
returns-in-Some c =
    let read = c.in_ok-ranges.ensures.exact in
    let short = map range_at c.in_ok-short.short.now in
    let list = made (short ++ read.0) c.in_ok-ranges.field-0 c.in-Some.ranges (read.2 short c.short_ranges.ensures) c.in-Some.is in
    rw (c.in_ok-short.ensures, c.in_ok-base.ensures, read.1) (ap (λ ranges. Ok ranges) list)
