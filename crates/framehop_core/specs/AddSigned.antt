-- The sum of an unsigned and a signed number, brought back to a width (framehop 0.16.0, `AddSigned`).
use Rattle.std.specs.Prelude.{ℕ, ◌^◌, ℤ, pos, negsuc, ◌+ℤ◌, unsigned_abs, if◌then◌else◌, nat_lt, Option, Some, None}
use Rattle.std.specs.Int.{int_rem_euclid}

-- the sum, in whole numbers
abbrev pub sum_with : ℕ → ℤ → ℤ
sum_with n z = pos n +ℤ z

-- the number modulo two to the power of the width: from 0 up to below that power
abbrev pub modulo : ℕ → ℤ → ℕ
modulo bits z = unsigned_abs (int_rem_euclid z (pos (2 ^ bits)))

-- the number, where it fits the width
abbrev pub fitting : ℕ → ℤ → Option ℕ
fitting bits (pos n) = if nat_lt n (2 ^ bits) then Some n else None
fitting bits (negsuc _) = None
