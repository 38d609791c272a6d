use Rattle.std.proofs.Common.{ℕ, ◌+◌, ◌<◌, ◌≤◌}
use Rattle.std.specs.Prelude.{slice_index_or}
use Rattle.framehop_memory.specs.declared.memory.MemoryRange.{MemoryRange}
use Rattle.framehop_memory.proofs.ranges.are_apart.Given as goal

abbrev pub invariant-loop-index : goal.invariant-loop-index
invariant-loop-index l = (i j : ℕ) (d : MemoryRange) → i < j → j < l.index →
    (slice_index_or l.ranges i d).start + (slice_index_or l.ranges i d).size ≤ (slice_index_or l.ranges j d).start
