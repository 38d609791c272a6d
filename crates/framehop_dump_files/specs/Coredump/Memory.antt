-- The memory of a process, as far as a core file has it (gABI, chapter 5, "Program Header": PT_LOAD; `core(5)`).
use Rattle.framehop_memory.specs.declared.memory.MemoryRange.{MemoryRange}
use Rattle.framehop_memory.specs.declared.segment.Segment.{Segment}

-- what was dumped of a segment: as many of its bytes as the file has, p_filesz
abbrev pub range_of : Segment → MemoryRange
range_of segment = record { start = segment.address; size = segment.file_size; offset = segment.offset }
