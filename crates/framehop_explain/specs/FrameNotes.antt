-- The notes of frames: what each of them came from.
use Rattle.std.specs.Prelude.{◌≡◌, ℕ, List, [], ◌∷◌, ◌++◌, Option}
use Rattle.std.specs.List.{AllZip}
use Rattle.framehop_core.specs.CodeAddress.{FrameLocation, lookup_address}
use Rattle.framehop_core.specs.Memory.{Memory}
use Rattle.framehop.specs.Modules.{ModuleView}
use Rattle.framehop_explain.specs.Found.{Explaining, FrameFinding, IsFinding}
use Rattle.framehop_explain.specs.FrameText.{frame_text}
use Rattle.framehop_explain.specs.Note.{note_line}

-- the note of a frame at a location, from registers over a memory: one line, the text of what is found of it
abbrev pub IsFrameNote : {R S : Type 0} → Explaining R S → List ModuleView → Memory → FrameLocation → S → List ℕ → Type 0
IsFrameNote {R} explaining modules memory location regs note =
    (found : Option (FrameFinding R)) × IsFinding explaining modules memory location regs found
    × (note ≡ note_line (frame_text explaining.text explaining.fallback modules (lookup_address location) found))

-- a list of notes has grown by such a note
abbrev pub AddsNote : (List ℕ → Type 0) → List (List ℕ) → List (List ℕ) → Type 0
AddsNote Is old new = (note : List ℕ) × Is note × (new ≡ old ++ note ∷ [])

-- the same by a note for each of some frames, in their order
abbrev pub AddsNotes : {S : Type 0} → (FrameLocation → S → List ℕ → Type 0) → List (FrameLocation × S)
    → List (List ℕ) → List (List ℕ) → Type 0
AddsNotes Is frames old new =
    (notes : List (List ℕ)) × AllZip (λ frame note. Is frame.0 frame.1 note) frames notes × (new ≡ old ++ notes)
