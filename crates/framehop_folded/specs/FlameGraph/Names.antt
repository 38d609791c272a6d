-- Names of frames as text of an SVG.
use Rattle.std.specs.Prelude.{ℕ, Bool, List, ◌++◌, ◌+◌, ◌-◌, ◌*◌, ◌/◌, ◌%◌, ◌^◌, ◌==◌, ◌||◌, codes, length, take, nat_lt, nat_le, bit_xor, if◌then◌else◌}
use Rattle.std.specs.Char.{encode_utf8}
use Rattle.std.specs.Fmt.{decimal}
use Rattle.std.specs.List.{flat_map, fold}
use Rattle.std.specs.Str.{chars}
use Rattle.std.specs.Str.Lossy.{utf8_lossy}

-- the characters of a name, with U+FFFD in the place of what is not UTF-8
abbrev pub characters_of : List ℕ → List ℕ
characters_of name = chars (utf8_lossy name)

-- a control character or a noncharacter, which XML 1.0 does not allow, or which is a line break or a tab
abbrev pub is_unprintable : ℕ → Bool
is_unprintable character = nat_lt character 32 || character == 0xfffe || character == 0xffff

-- a character in XML (XML 1.0, 2.2 and 2.4)
abbrev pub escaped_character : ℕ → List ℕ
escaped_character character =
    if character == 38 then codes "&amp;"
    else if character == 60 then codes "&lt;"
    else if character == 62 then codes "&gt;"
    else if character == 34 then codes "&quot;"
    else if is_unprintable character then encode_utf8 0xfffd
    else encode_utf8 character

-- all characters of a name so
abbrev pub escaped : List ℕ → List ℕ
escaped characters = flat_map escaped_character characters

-- How many characters fit into a box of a width in hundredths of a pixel: each takes 7.25 pixels at a size of 12, and
-- 3 pixels are left free at either side.
abbrev pub fitting : ℕ → ℕ
fitting width = (width - 600) / 725

-- a name, of which at most so many characters fit; a longer one ends in two dots
abbrev pub cut : ℕ → List ℕ → List ℕ
cut fit characters = if nat_le (length characters) fit then characters else take (fit - 2) characters ++ codes ".."

-- FNV-1a at 32 bits (draft-eastlake-fnv)
abbrev pub hash_of : List ℕ → ℕ
hash_of name = fold (λ hash byte. bit_xor hash byte * 16777619 % 2 ^ 32) 2166136261 name

-- a warm colour, on which black text can be read
unfoldable pub colour_of : List ℕ → List ℕ
colour_of name = let hash = hash_of name in
    codes "rgb(" ++ decimal (205 + hash % 50) ++ codes "," ++ decimal (80 + hash / 50 % 150) ++ codes ","
    ++ decimal (hash / 7500 % 55) ++ codes ")"
