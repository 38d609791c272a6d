use Rattle.std.proofs.Common.{◌≡◌, ◌++◌, drop, List}
use Rattle.framehop_memory.specs.declared.memory.MemoryRange.{MemoryRange}
use Rattle.framehop_bytes.specs.Gathered.{IsGathered}
use Rattle.framehop_dump_files.specs.Minidump.Memory.{ranges_from}
use Rattle.framehop_dump_files.proofs.RangeLemmas.{prepended}
use Rattle.framehop_dump_files.proofs.minidump.memory.with_long_ranges.Given as goal

abbrev pub invariant-loop-entry : goal.invariant-loop-entry
invariant-loop-entry l =
    (read : List MemoryRange) × ((list : List MemoryRange)
    → IsGathered list l.fn.ranges → IsGathered (list ++ read) l.ranges)
    × (ranges_from l.fn.base l.entries ≡ prepended read (ranges_from l.offset (drop l.entry-index l.entries)))
