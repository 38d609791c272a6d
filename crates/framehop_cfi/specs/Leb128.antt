-- LEB128 numbers (DWARF 5 section 7.6).
use Rattle.std.specs.Prelude.{ℕ, zero, suc, ◌+◌, ◌*◌, ◌^◌, ◌%◌, Bool, List, [], ◌∷◌, length, drop, slice_index, Ok, Err, nat_le, nat_lt, if◌then◌else◌, ℤ, pos, negsuc, ◌-ℤ◌}
use Rattle.framehop_bytes.specs.Bytes.{◌>>=◌}
use Rattle.framehop_cfi.specs.Numbers.{Parsed}
use Rattle.framehop_cfi.specs.declared.read_error.ReadError.TheVariants.{Eof, BadLeb}

-- how many bytes at the front say that more follow: those from 128 on
abbrev pub continued : List ℕ → ℕ
continued [] = 0
continued (byte ∷ bytes) = if nat_le 128 byte then suc (continued bytes) else 0

-- the sum of the first groups of seven bits, the lowest first
abbrev pub sum_of_groups : List ℕ → ℕ → ℕ → ℕ
sum_of_groups bytes at zero = 0
sum_of_groups bytes at (suc n) = sum_of_groups bytes at n + slice_index bytes (at + n) % 128 * 2 ^ (7 * n)

-- the groups up to the first byte below 128, at most ten: their sum, and how many bits they have
unfoldable pub groups_at : List ℕ → ℕ → Parsed (ℕ × ℕ)
groups_at bytes at =
    let more = continued (drop at bytes) in
    if nat_le 10 more then Err BadLeb
    else (if nat_le (length bytes) (at + more) then Err Eof
    else Ok ((sum_of_groups bytes at (suc more), 7 * suc more), at + suc more))

-- an unsigned number of at most 64 bits
unfoldable pub uleb_at : List ℕ → ℕ → Parsed ℕ
uleb_at bytes at = do
  number ← groups_at bytes at
  if nat_lt number.0.0 (2 ^ 64) then Ok (number.0.0, number.1) else Err BadLeb

-- a number of so many bits, of which the highest is its sign
abbrev pub with_sign : ℕ → ℕ → ℤ
with_sign sum bits = if nat_lt (2 * sum) (2 ^ bits) then pos sum else pos sum -ℤ pos (2 ^ bits)

-- the number fits 64 bits with a sign
abbrev pub fits_i64 : ℤ → Bool
fits_i64 (pos n) = nat_lt n (2 ^ 63)
fits_i64 (negsuc n) = nat_lt n (2 ^ 63)

-- a signed number of at most 64 bits
unfoldable pub sleb_at : List ℕ → ℕ → Parsed ℤ
sleb_at bytes at = do
  number ← groups_at bytes at
  let value = with_sign number.0.0 number.0.1
  if fits_i64 value then Ok (value, number.1) else Err BadLeb
