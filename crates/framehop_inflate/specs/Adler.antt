-- Adler-32 (RFC 1950 section 8.2).
use Rattle.std.specs.Prelude.{ℕ, zero, suc, ◌+◌, ◌*◌, ◌%◌, List, length, slice_index}

-- 1 and the sum of so many bytes at the front
abbrev pub first_sum : List ℕ → ℕ → ℕ
first_sum bytes zero = 1
first_sum bytes (suc n) = first_sum bytes n + slice_index bytes n

-- the sum of the first sums, one after each of so many bytes at the front
abbrev pub second_sum : List ℕ → ℕ → ℕ
second_sum bytes zero = 0
second_sum bytes (suc n) = second_sum bytes n + first_sum bytes (suc n)

-- both sums modulo 65521, the second one above
unfoldable pub adler : List ℕ → ℕ
adler bytes = second_sum bytes (length bytes) % 65521 * 65536 + first_sum bytes (length bytes) % 65521
