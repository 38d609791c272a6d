-- Ranges of memory, and how many bytes of each there are.
use Rattle.std.specs.Prelude.{ℕ, ◌+◌, Option, Bool, ◌&&◌, nat_le}
use Rattle.framehop_memory.specs.Range.{available}
use Rattle.framehop_memory.specs.declared.memory.MemoryRange.{MemoryRange}
use Rattle.framehop_memory.specs.declared.stairs.Run.{Run}
use Rattle.framehop_memory.specs.declared.range_tree.SizedRange.{SizedRange}

-- a range with the number of its bytes that count
abbrev pub sized : Option ℕ → MemoryRange → SizedRange
sized file_size range = record { range = range; size = available file_size range }

-- a range has so many bytes from an address on
abbrev pub has_sized : ℕ → ℕ → SizedRange → Bool
has_sized address size sized =
    nat_le sized.range.start address && nat_le (address + size) (sized.range.start + sized.size)

-- the addresses that it has
abbrev pub run_of : SizedRange → Run
run_of sized = record { start = sized.range.start; size = sized.size }

-- the range
abbrev pub range_in : SizedRange → MemoryRange
range_in sized = sized.range
