-- The notes of frames, one after another.
use Rattle.std.proofs.Common.{◌≡◌, ◌<◌, ◌+◌, ℕ, List, [], ◌∷◌, ◌++◌, map, drop, length, refl, sym, ap, ◌∙◌, subst, append_assoc, append-nil}
use Rattle.framehop_core.specs.CodeAddress.{FrameLocation}
use Rattle.framehop_backtrace.specs.declared.frame.BacktraceEnd.{BacktraceEnd}
use Rattle.framehop_backtrace.specs.declared.frame.FoundBy.{FoundBy}
use Rattle.framehop_frames.specs.Notes.{NotedFrame, noted_frame, caller_of, IsFrameNote, AreFrameNotes}
use Rattle.framehop_frames.specs.declared.stack.StackFrame.{StackFrame}
use Rattle.std.specs.Prelude.{Result}

module _ {Regs : Type 0} (is_note : FrameLocation → Regs → Result FoundBy BacktraceEnd → List ℕ → Type 0) (end : BacktraceEnd)
    (frames : List (StackFrame Regs)) (before : List (List ℕ)) where
  -- those of the frames up to an index were appended to the notes before
  abbrev pub AreUpTo : ℕ → List (List ℕ) → Type 0
  AreUpTo at notes = (later : List (List ℕ)) → AreFrameNotes is_note end (map noted_frame (drop at frames)) later
      → (added : List (List ℕ)) × AreFrameNotes is_note end (map noted_frame frames) added × (notes ++ later ≡ before ++ added)

  -- one more
  pub next-note : (at : ℕ) (notes : List (List ℕ)) (frame : StackFrame Regs) (note : List ℕ) → at < length frames
      → (drop at frames ≡ frame ∷ drop (at + 1) frames)
      → IsFrameNote is_note (noted_frame frame) (caller_of end (map noted_frame (drop (at + 1) frames))) note
      → AreUpTo at notes → AreUpTo (at + 1) (notes ++ note ∷ [])
  next-note at notes frame note within is noted up_to = λ later are.
      let left : map noted_frame (drop at frames) ≡ noted_frame frame ∷ map noted_frame (drop (at + 1) frames) = ap (map noted_frame) is in
      let all = up_to (note ∷ later) (subst (λ (some : List (NotedFrame Regs)). AreFrameNotes is_note end some (note ∷ later)) (sym left) (note, noted, (later, are, refl))) in
      (all.0, all.1, append_assoc notes (note ∷ []) later ∙ all.2)

  -- all of them
  pub all-notes : (at : ℕ) (notes : List (List ℕ)) → drop at frames ≡ [] → AreUpTo at notes
      → (added : List (List ℕ)) × AreFrameNotes is_note end (map noted_frame frames) added × (notes ≡ before ++ added)
  all-notes at notes none up_to =
      let all = up_to [] (subst (λ (some : List (StackFrame Regs)). AreFrameNotes is_note end (map noted_frame some) []) (sym none) refl) in
      (all.0, all.1, sym (append-nil notes) ∙ all.2)
