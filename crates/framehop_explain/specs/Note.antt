-- Notes: lines that begin with two blanks.
use Rattle.std.specs.Prelude.{◌≡◌, ℕ, List, [], ◌∷◌, ◌++◌, map, nat_le, nat_lt, Bool, false, ◌&&◌, ◌||◌, ◌==◌, if◌then◌else◌}
use Rattle.std.specs.List.{flat_map}

-- after a byte there is a control character of the set C1, U+0080 to U+009F (ISO 6429): in UTF-8, 0xc2 and a byte below 0xa0
abbrev pub has_c1_after : ℕ → List ℕ → Bool
has_c1_after previous [] = false
has_c1_after previous (byte ∷ bytes) = ((previous == 0xc2) && nat_lt byte 0xa0) || has_c1_after byte bytes

-- A byte as it is printed: a control character becomes a question mark. So does each byte beyond ASCII of a text that has one
-- of C1 (`true`).
unfoldable pub printable : Bool → ℕ → ℕ
printable c1 byte = if nat_lt byte 32 || byte == 127 || c1 && nat_le 128 byte then 63 else byte

-- a text as it is printed
abbrev pub printed : List ℕ → List ℕ
printed text = map (printable (has_c1_after 0 text)) text

-- a line of a note, over its text
abbrev pub note_line : List ℕ → List ℕ
note_line text = 32 ∷ 32 ∷ (printed text ++ 10 ∷ [])

-- a note is such lines
abbrev pub IsNote : List ℕ → Type 0
IsNote note = (texts : List (List ℕ)) × (note ≡ flat_map note_line texts)
