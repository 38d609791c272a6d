-- The CRC-32 of bytes (ITU-T V.42, 8.1.1.6.2; RFC 1952, section 8): the remainder of a division of polynomials over the field of
-- two elements, whose coefficients are bits.
use Rattle.std.specs.Prelude.{ℕ, ◌/◌, ◌%◌, ◌^◌, length, Bool, ◌&&◌, List, [], ◌∷◌, fold, map, bit_xor, ◌==◌, if◌then◌else◌}
use Rattle.framehop_bytes.specs.Bytes.{le4}

-- x^26 + x^23 + x^22 + x^16 + x^12 + x^11 + x^10 + x^8 + x^7 + x^5 + x^4 + x^2 + x + 1, the divisor without x^32: the
-- coefficient of x^31 is the lowest bit
abbrev pub DIVISOR : ℕ
DIVISOR = 0xEDB88320

-- A step of the division: a bit is added to the coefficient of x^31 of the remainder, which is multiplied by x; the divisor is taken
-- away where x^32 is in it.
abbrev pub after_bit : ℕ → ℕ → ℕ
after_bit remainder bit =
    let sum = bit_xor remainder bit in
    if sum % 2 == 1 then bit_xor (sum / 2) DIVISOR else sum / 2

-- the bits of a byte, of which the lowest comes first
abbrev pub bit_of : ℕ → ℕ → ℕ
bit_of byte place = byte / 2 ^ place % 2

abbrev pub bits_of : ℕ → List ℕ
bits_of byte = map (bit_of byte) (0 ∷ 1 ∷ 2 ∷ 3 ∷ 4 ∷ 5 ∷ 6 ∷ 7 ∷ [])

-- the remainder after them
abbrev pub after_byte : ℕ → ℕ → ℕ
after_byte remainder byte = fold after_bit remainder (bits_of byte)

-- The CRC-32: the first 32 bits count as inverted, and so is the remainder.
abbrev pub crc32 : List ℕ → ℕ
crc32 bytes = bit_xor (fold after_byte 0xFFFFFFFF bytes) 0xFFFFFFFF

-- LLDB makes up the build id of an ELF file that has none (`ObjectFileELF::GetUUID`): the CRC-32 of its bytes, the lowest byte
-- first
unfoldable pub is_made_up : List ℕ → List ℕ → Bool
is_made_up wanted file = (length wanted == 4) && (le4 wanted 0 == crc32 file)
