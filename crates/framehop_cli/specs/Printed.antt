-- Names that others gave, as they are printed (Unicode, general categories Cc, Cf, Zl and Zp).
use Rattle.std.specs.Prelude.{ℕ, ◌-◌, ◌/◌, ◌%◌, ◌==◌, ◌&&◌, ◌||◌, nat_le, nat_lt, if◌then◌else◌, Bool, false, List, [], ◌∷◌, ◌++◌, codes}
use Rattle.std.specs.Char.{encode_utf8, is_control, len_utf8}
use Rattle.std.specs.Fmt.{digits}
use Rattle.std.specs.List.{flat_map}
use Rattle.std.specs.Str.{chars}

-- how many bytes of a name are printed
abbrev pub LONGEST_NAME : ℕ
LONGEST_NAME = 2048

-- a character is one of these two, or between them
abbrev pub is_between : ℕ → ℕ → ℕ → Bool
is_between first last character = nat_le first character && nat_le character last

-- a character is not seen, ends a line or turns the order in which it is read
abbrev pub is_unseen : ℕ → Bool
is_unseen character = (character == 0xad) || is_between 0x200b 0x200f character || is_between 0x2028 0x202e character
    || is_between 0x2060 0x206f character || (character == 0xfeff)

-- a byte as `\xNN`
abbrev pub byte_text : ℕ → List ℕ
byte_text byte = codes "\\x" ++ (digits 16 false (byte / 16) ++ digits 16 false (byte % 16))

-- a character: each byte of one that a terminal might obey, or that is not seen
abbrev pub character_text : ℕ → List ℕ
character_text character =
    if is_control character || is_unseen character then flat_map byte_text (encode_utf8 character) else encode_utf8 character

-- characters as long as they fit in so many bytes, and `...` for the rest
unfoldable pub text_within : ℕ → List ℕ → List ℕ
text_within left [] = []
text_within left (character ∷ characters) =
    if nat_lt left (len_utf8 character) then codes "..."
    else character_text character ++ text_within (left - len_utf8 character) characters

-- a name
abbrev pub printed_name : List ℕ → List ℕ
printed_name name = text_within LONGEST_NAME (chars name)
