use Rattle.std.proofs.Common.{◌≡◌, true, false, ℕ, ◌+◌, ◌-◌, ◌<◌, length, []}
use Rattle.framehop_cfi.specs.RowAt.{InstructionList, run, run_from, is_beyond}
use Rattle.framehop_cfi.specs.RowRoom.{one_needs_room, list_needs_room}
use Rattle.framehop_cfi.proofs.context.UnwindContext.run.Given as goal

abbrev pub invariant-loop-cursor : goal.invariant-loop-cursor
invariant-loop-cursor g l =
    let code : InstructionList = record { cie = l.cie; bases = l.bases; bytes = l.bytes; address = l.address } in
    (n : ℕ) × (length l.bytes < n + l.cursor.next) × (run g.S.UnwindContextStorage.limits code n l.cursor.next l.cursor.location l.self
    ≡ run_from g.S.UnwindContextStorage.limits code l.at l.start l.initial.self)
    × (one_needs_room code n l.cursor.next l.cursor.location ≡ true → list_needs_room code l.at l.start ≡ true)
    × (is_beyond l.address l.cursor.location ≡ false)
    × (l.initial.self.remembered ≡ [] → list_needs_room code l.at l.start ≡ false → l.self.remembered ≡ [])

abbrev pub decreases-loop-cursor : goal.decreases-loop-cursor
decreases-loop-cursor g l = length l.bytes - l.cursor.next
