-- Texts that others made, as they are printed.
use Rattle.std.specs.Prelude.{ℕ, ◌==◌, ◌&&◌, ◌||◌, nat_le, nat_lt, Bool, List, [], ◌∷◌, ◌++◌, if◌then◌else◌}
use Rattle.std.specs.List.{list_all}
use Rattle.framehop_frames.specs.Line.{plain}

-- a line feed, or a character of ASCII that is printed
abbrev pub is_plain_byte : ℕ → Bool
is_plain_byte byte = byte == 10 || (nat_le 32 byte && nat_lt byte 127)

abbrev pub is_plain : List ℕ → Bool
is_plain text = list_all is_plain_byte text

-- a semicolon or a line feed
abbrev pub is_separator : ℕ → Bool
is_separator byte = byte == 59 || byte == 10

-- A text is printed part by part, between separators, each as a name is: so that a terminal takes no byte of it for a command.
-- A part has begun with these bytes.
abbrev pub printed_from : List ℕ → List ℕ → List ℕ
printed_from part [] = plain part
printed_from part (byte ∷ text) =
    if is_separator byte then plain part ++ byte ∷ printed_from [] text else printed_from (part ++ byte ∷ []) text

abbrev pub printed_text : List ℕ → List ℕ
printed_text text = printed_from [] text
