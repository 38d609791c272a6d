use Rattle.std.proofs.Common.{List, ◌+◌, ◌≤◌, cond, length}
use Rattle.std.specs.Iterator.{AlwaysYields}
use Rattle.framehop_core.specs.declared.x86_64.unwind_rule.OffsetOrPop.{OffsetOrPop}
use Rattle.framehop_core.proofs.Sequences.{Gives}
use Rattle.framehop_core.proofs.x86_64.unwind_rule.offset_and_pops.Given as goal

-- each operation that was read is a register, but for one offset
abbrev pub invariant-loop-read : goal.invariant-loop-read
invariant-loop-read g l =
    g.I.Iterator.can_next l.operations
    × (length l.registers.items ≤ 8)
    × (l._read ≤ length l.registers.items + cond l.is_first 0 1)
    × ((given : List OffsetOrPop) → AlwaysYields g.I.Iterator.next_gives (λ operation. operation) l.fn.operations given → Gives g.I.Iterator.next_gives l.operations l.is_first l.sp_offset_by_8 l.registers.items given)
