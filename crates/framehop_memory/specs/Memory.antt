-- The memory of a process, as far as a file has it: ranges, each of which begins at an address and at an offset of the
-- file.
use Rattle.std.specs.Prelude.{ℕ, ◌-◌, List, take, drop, Option, option_map}
use Rattle.std.specs.List.{find}
use Rattle.framehop_bytes.specs.Bytes.{le8}
use Rattle.framehop_memory.specs.Range.{dumped, has}
use Rattle.framehop_memory.specs.declared.memory.MemoryRange.{MemoryRange}
use Rattle.framehop_memory.specs.declared.memory.ProcessMemory.{ProcessMemory}

-- the bytes of a file, and its ranges
pub record MemoryView : Type 0 where
  pub file : List ℕ
  pub ranges : List MemoryRange

abbrev pub memory_view : ProcessMemory → MemoryView
memory_view memory = record { file = memory.file.now; ranges = memory.ranges.listed.items }

-- so many bytes of a range, from an address on
abbrev pub bytes_in : List ℕ → ℕ → ℕ → MemoryRange → List ℕ
bytes_in file address size range = take size (drop (address - range.start) (dumped file range))

-- so many bytes from an address on: those of the first range that has all of them
abbrev pub bytes_of : MemoryView → ℕ → ℕ → Option (List ℕ)
bytes_of memory address size =
    option_map (bytes_in memory.file address size) (find (has memory.file address size) memory.ranges)

-- those from an address on, as far as the range has them: of the first that has the one there
abbrev pub bytes_after : MemoryView → ℕ → Option (List ℕ)
bytes_after memory address =
    option_map (λ range. drop (address - range.start) (dumped memory.file range)) (find (has memory.file address 1) memory.ranges)

-- the word of eight bytes at an address
abbrev pub word_of : MemoryView → ℕ → Option ℕ
word_of memory address = option_map (λ bytes. le8 bytes 0) (bytes_of memory address 8)
