-- Characters that are not seen, end a line, or turn the order in which it is read: of Unicode's general categories Cf, Zl and Zp
-- the soft hyphen and those of the blocks General Punctuation and Arabic Presentation Forms-B, by their bytes in UTF-8.
use Rattle.std.specs.Prelude.{ℕ, Bool, false, ◌&&◌, ◌||◌, List, [], ◌∷◌, ◌==◌, nat_le}

-- a byte is one of these and of those between them
abbrev pub is_between : ℕ → ℕ → ℕ → Bool
is_between least greatest byte = nat_le least byte && nat_le byte greatest

-- the last byte of U+200B to U+200F, U+2028 to U+202E (after E2 80) and U+2060 to U+206F (after E2 81)
abbrev pub is_unseen_point : ℕ → ℕ → Bool
is_unseen_point second third =
    (second == 0x80) && (is_between 0x8b 0x8f third || is_between 0xa8 0xae third)
    || (second == 0x81) && is_between 0xa0 0xaf third

-- three bytes end with such a character: the soft hyphen is of two, and U+FEFF is EF BB BF
abbrev pub ends_unseen : ℕ → ℕ → ℕ → Bool
ends_unseen first second third =
    (second == 0xc2) && (third == 0xad)
    || (first == 0xe2) && is_unseen_point second third
    || (first == 0xef) && (second == 0xbb) && (third == 0xbf)

-- after two bytes there is one
abbrev pub has_unseen_after : ℕ → ℕ → List ℕ → Bool
has_unseen_after first second [] = false
has_unseen_after first second (third ∷ bytes) = ends_unseen first second third || has_unseen_after second third bytes
