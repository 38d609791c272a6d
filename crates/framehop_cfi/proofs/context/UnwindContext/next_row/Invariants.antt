use Rattle.std.proofs.Common.{◌≡◌, ◌+◌, ◌-◌, ◌<◌, true, false, ℕ, [], length}
use Rattle.framehop_cfi.specs.RowAt.{InstructionList, instructions_of_fde}
use Rattle.framehop_cfi.specs.RowCursor.{HasReached}
use Rattle.framehop_cfi.specs.RowRoom.{one_needs_room, list_needs_room}
use Rattle.framehop_cfi.proofs.context.UnwindContext.next_row.Given as goal

abbrev pub invariant-loop-next : goal.invariant-loop-next
invariant-loop-next g l =
    let code : InstructionList = instructions_of_fde l.section l.fde l.cursor.location in
    (HasReached g.S.UnwindContextStorage.limits l.section l.fde l.cursor.next l.cursor.location l.initial.self
    → HasReached g.S.UnwindContextStorage.limits l.section l.fde l.next l.cursor.location l.self)
    × ((n : ℕ) × (length code.bytes < n + l.next)
    × (one_needs_room code n l.next l.cursor.location ≡ true → list_needs_room code l.cursor.next l.cursor.location ≡ true))
    × (l.initial.self.remembered ≡ [] → list_needs_room code l.cursor.next l.cursor.location ≡ false → l.self.remembered ≡ [])

abbrev pub decreases-loop-next : goal.decreases-loop-next
decreases-loop-next g l = length l.bytes - l.next
