-- A text with notes under its lines.
use Rattle.std.specs.Prelude.{ℕ, ◌+◌, List, [], ◌∷◌, ◌++◌, take, drop, position, ◌==◌, Option, Some, None}

-- the first line of a text, with its line feed, by where that is; and what comes after it
abbrev pub line_to : List ℕ → Option ℕ → List ℕ
line_to text (Some feed) = take (feed + 1) text
line_to text None = text

abbrev pub rest_from : List ℕ → Option ℕ → List ℕ
rest_from text (Some feed) = drop (feed + 1) text
rest_from text None = []

unfoldable pub first_line : List ℕ → List ℕ
first_line text = line_to text (position (λ byte. byte == 10) text)

unfoldable pub after_first_line : List ℕ → List ℕ
after_first_line text = rest_from text (position (λ byte. byte == 10) text)

-- the first line, the first note, and so on; what is left of the text comes after the last note
unfoldable pub annotated : List ℕ → List (List ℕ) → List ℕ
annotated text [] = text
annotated text (note ∷ notes) = first_line text ++ (note ++ annotated (after_first_line text) notes)
