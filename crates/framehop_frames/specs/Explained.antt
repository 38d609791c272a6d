-- The text of stacks with notes under its lines.
use Rattle.std.specs.Prelude.{◌≡◌, ℕ, Bool, true, false, List}
use Rattle.framehop_explain.specs.Annotated.{annotated}

-- what is shown of a text: the text or, where it is to be explained, the text with notes under its lines
abbrev pub shown_with : Bool → List (List ℕ) → List ℕ → List ℕ
shown_with true notes text = annotated text notes
shown_with false notes text = text

-- the same by what the notes are
abbrev pub IsShown : Bool → (List (List ℕ) → Type 0) → List ℕ → List ℕ → Type 0
IsShown true are_notes text shown = (notes : List (List ℕ)) × are_notes notes × (shown ≡ annotated text notes)
IsShown false are_notes text shown = shown ≡ text
