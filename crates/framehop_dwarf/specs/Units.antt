-- Offsets in bytes as numbers of units, where they are exact and fit the field of a rule.
use Rattle.std.specs.Prelude.{ℕ, ◌^◌, Bool, Option, Some, None, ℤ, pos, negsuc, ◌*ℤ◌, int_div, nat_lt, if◌then◌else◌}
use Rattle.std.specs.Ordering.{int_eq}

-- the field has 16 bits, without a sign
abbrev pub fits_u16 : ℤ → Option ℕ
fits_u16 (pos n) = if nat_lt n (2 ^ 16) then Some n else None
fits_u16 (negsuc n) = None

-- the field has 16 bits, one of them the sign
abbrev pub fits_i16 : ℤ → Option ℤ
fits_i16 (pos n) = if nat_lt n (2 ^ 15) then Some (pos n) else None
fits_i16 (negsuc n) = if nat_lt n (2 ^ 15) then Some (negsuc n) else None

-- the bytes are that many units, without a remainder
abbrev pub is_exact : ℤ → ℕ → ℤ → Bool
is_exact units size bytes = int_eq (units *ℤ pos size) bytes

-- how many units bytes are, without a sign (16 bits) and with one
unfoldable pub units_of : ℕ → ℤ → Option ℕ
units_of size bytes =
    if is_exact (int_div bytes (pos size)) size bytes then fits_u16 (int_div bytes (pos size)) else None

unfoldable pub signed_units_of : ℕ → ℤ → Option ℤ
signed_units_of size bytes =
    if is_exact (int_div bytes (pos size)) size bytes then fits_i16 (int_div bytes (pos size)) else None
