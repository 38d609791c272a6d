use Rattle.std.proofs.Common.{◌≡◌, ◌+◌, length}
use Rattle.framehop_frames.proofs.NoteLemmas.{AreUpTo}
use Rattle.framehop_frames.proofs.explain.note_frames.Given as goal

abbrev pub invariant-loop-at : goal.invariant-loop-at
invariant-loop-at g l =
    (length l.notes.items ≡ length l.initial.notes.items + l.at)
    × AreUpTo (g.U.Steps.is_note (g.U.Unwinder.unwinder_view l.unwinder).modules (g.M.Words.memory l.words)) l.end l.frames l.initial.notes.items l.at l.notes.items
