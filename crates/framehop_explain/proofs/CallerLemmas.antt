-- The frames of a walk, with the registers in each, and a note for each of them.
use Rattle.std.proofs.Common.{◌≡◌, ◌∙◌, ℕ, zero, suc, ◌+◌, ◌-◌, ◌<◌, ◌≤◌, ◌==◌, Bool, true, false, List, [], ◌∷◌, ◌++◌, map, Option, Some, None, length, length-append, ap, sym, refl, subst, append_assoc, append-nil, arith, if◌then◌else◌}
use Rattle.std.specs.List.{AllZip}
use Rattle.framehop_core.specs.CodeAddress.{FrameLocation, at_instruction_pointer, at_return_address}
use Rattle.framehop_core.specs.Outcome.{Outcome, answered, root, refused, answer_of, registers_after}
use Rattle.framehop_core.specs.declared.error.Error.TheVariants.{ReturnAddressIsNull}
use Rattle.framehop.specs.Walk.{callers, onward, walk_from, frame_before, at_refusal}
use Rattle.framehop_explain.specs.Callers.{caller_by, caller_of, frames_from}

-- the locations of frames
abbrev pub locations : {Regs : Type 0} → List (FrameLocation × Regs) → List FrameLocation
locations frames = map (λ frame. frame.0) frames

-- the frames after one at a location are those from its caller on
abbrev pub AreCallers : {Regs : Type 0} → (FrameLocation → Regs → Outcome Regs) → ℕ → Type 0
AreCallers {Regs} step n = (location : FrameLocation) (regs : Regs)
    → (callers step n location regs).frames ≡ locations (frames_from step n (caller_of step (location, regs)))

onward-null : {Regs : Type 0} (step : FrameLocation → Regs → Outcome Regs) (n address : ℕ) (old new : Regs) (is_null : Bool)
    → AreCallers step n
    → (if is_null then record { frames = []; end = at_refusal ReturnAddressIsNull; regs = new }
    else frame_before (at_return_address address) (callers step n (at_return_address address) new)).frames
    ≡ locations (frames_from step (suc n) (if is_null then None else Some (at_return_address address, new)))
onward-null step n address old new true are = refl
onward-null step n address old new false are = ap (λ others. at_return_address address ∷ others) (are (at_return_address address) new)

onward-frames : {Regs : Type 0} (step : FrameLocation → Regs → Outcome Regs) (n : ℕ) (old : Regs) (outcome : Outcome Regs)
    → AreCallers step n
    → (onward (callers step n) old outcome).frames
    ≡ locations (frames_from step (suc n) (caller_by (answer_of outcome) (registers_after old outcome)))
onward-frames step n old (answered address new) are = onward-null step n address old new (address == 0) are
onward-frames step n old root are = refl
onward-frames step n old (refused error) are = refl

callers-frames : {Regs : Type 0} (step : FrameLocation → Regs → Outcome Regs) (n : ℕ) → AreCallers step n
unfolding callers
callers-frames step zero location regs = refl
callers-frames step (suc n) location regs = onward-frames step n regs (step location regs) (callers-frames step n)

-- those of a whole walk
pub walk-frames : {Regs : Type 0} (step : FrameLocation → Regs → Outcome Regs) (n pc : ℕ) (regs : Regs)
    → locations (frames_from step n (Some (at_instruction_pointer pc, regs))) ≡ (walk_from step n pc regs).frames
unfolding walk_from
walk-frames step zero pc regs = refl
walk-frames step (suc n) pc regs = ap (λ others. at_instruction_pointer pc ∷ others) (sym (callers-frames step n (at_instruction_pointer pc) regs))

length-locations : {Regs : Type 0} (frames : List (FrameLocation × Regs)) → length (locations frames) ≡ length frames
length-locations [] = refl
length-locations (frame ∷ frames) = ap suc (length-locations frames)

module _ {A : Type 0} (Is : A → List ℕ → Type 0) where
  -- notes of the first of all these: with those of the ones that are left they are notes of all
  abbrev pub AreNoted : List A → List A → List (List ℕ) → Type 0
  AreNoted all left notes = (others : List (List ℕ)) → AllZip Is left others → AllZip Is all (notes ++ others)

  -- none is left
  pub noted-all : (all : List A) (notes : List (List ℕ)) → AreNoted all [] notes → AllZip Is all notes
  noted-all all notes noted = rw append-nil at (noted [] tt)

  -- as many
  pub as-many : (all : List A) (notes : List (List ℕ)) → AllZip Is all notes → length notes ≡ length all
  as-many [] [] are = refl
  as-many [] (note ∷ notes) are = absurd are
  as-many (frame ∷ all) [] are = absurd are
  as-many (frame ∷ all) (note ∷ notes) are = ap suc (as-many all notes are.1)

module _ {Regs : Type 0} (Is : FrameLocation × Regs → List ℕ → Type 0) (step : FrameLocation → Regs → Outcome Regs) where
  -- a frame is noted, and its caller comes next
  pub noted-next : (all : List (FrameLocation × Regs)) (notes : List (List ℕ)) (note : List ℕ) (k limit : ℕ) (frame : FrameLocation × Regs) (now next : Option (FrameLocation × Regs))
      → k < limit → now ≡ Some frame → next ≡ caller_of step frame → Is frame note → AreNoted Is all (frames_from step (limit - k) now) notes
      → AreNoted Is all (frames_from step (limit - (k + 1)) next) (notes ++ note ∷ [])
  noted-next all notes note k limit frame now next within is_now is_next is noted = λ others rest.
      let n = limit - (k + 1) in
      let size : limit - k ≡ suc n = omega arith in
      let left : frames_from step (limit - k) now ≡ frame ∷ frames_from step n next =
      ap (λ m. frames_from step m now) size ∙ ap (λ f. frames_from step (suc n) f) is_now
      ∙ ap (λ f. frame ∷ frames_from step n f) (sym is_next) in
      let P : List (FrameLocation × Regs) → Type 0 = λ frames. AllZip Is frames (note ∷ others) in
      let Q : List (List ℕ) → Type 0 = λ whole. AllZip Is all whole in
      subst Q (sym (append_assoc notes (note ∷ []) others)) (noted (note ∷ others) (subst P (sym left) (is, rest)))

  -- no frame is left
  none-left : (n : ℕ) → frames_from step n None ≡ []
  none-left zero = refl
  none-left (suc n) = refl

  pub noted-none : (all : List (FrameLocation × Regs)) (notes : List (List ℕ)) (n : ℕ) (now : Option (FrameLocation × Regs))
      → now ≡ None → AreNoted Is all (frames_from step n now) notes → AllZip Is all notes
  noted-none all notes n now is_now noted =
      let P : List (FrameLocation × Regs) → Type 0 = λ left. AreNoted Is all left notes in
      noted-all Is all notes (subst P (ap (λ f. frames_from step n f) is_now ∙ none-left n) noted)

  pub noted-end : (all : List (FrameLocation × Regs)) (notes : List (List ℕ)) (k limit : ℕ) (now : Option (FrameLocation × Regs))
      → limit ≤ k → AreNoted Is all (frames_from step (limit - k) now) notes → AllZip Is all notes
  noted-end all notes k limit now past noted =
      let P : List (FrameLocation × Regs) → Type 0 = λ left. AreNoted Is all left notes in
      let size : limit - k ≡ zero = omega arith in
      noted-all Is all notes (subst P (ap (λ m. frames_from step m now) size) noted)

  -- how many notes there are
  pub noted-count : (limit pc : ℕ) (regs : Regs) (old notes new : List (List ℕ)) → new ≡ old ++ notes
      → AllZip Is (frames_from step limit (Some (at_instruction_pointer pc, regs))) notes
      → length new ≡ length old + length (walk_from step limit pc regs).frames
  noted-count limit pc regs old notes new is are =
      let all = frames_from step limit (Some (at_instruction_pointer pc, regs)) in
      let whole : length notes ≡ length (walk_from step limit pc regs).frames =
      as-many Is all notes are ∙ sym (length-locations all) ∙ ap length (walk-frames step limit pc regs) in
      ap length is ∙ length-append old notes ∙ ap (λ n. length old + n) whole
