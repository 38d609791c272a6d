-- Texts in pieces.
use Rattle.std.specs.Prelude.{ℕ, List, [], ◌∷◌, ◌++◌}

-- a piece, and those after it
abbrev pub text_from : List ℕ → List (List ℕ) → List ℕ
text_from piece [] = piece
text_from piece (next ∷ others) = piece ++ text_from next others

-- pieces of a text, one after another
abbrev pub text_of : List (List ℕ) → List ℕ
text_of [] = []
text_of (piece ∷ others) = text_from piece others
