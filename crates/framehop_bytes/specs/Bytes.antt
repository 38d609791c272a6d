-- Little-endian numbers at an offset of bytes.
use Rattle.std.specs.Prelude.{ℕ, ◌+◌, ◌*◌, List, slice_index, Result, Ok, Err}

-- read one thing, then what comes after it; the first refusal stands
infixl 10 ◌>>=◌
abbrev pub ◌>>=◌ : {A B E : Type 0} → Result A E → (A → Result B E) → Result B E
(Ok x) >>= f = f x
(Err e) >>= f = Err e

-- little-endian numbers of two, four and eight bytes
abbrev pub le2 : List ℕ → ℕ → ℕ
le2 bytes at = slice_index bytes at + 256 * slice_index bytes (at + 1)

abbrev pub le4 : List ℕ → ℕ → ℕ
le4 bytes at = le2 bytes at + 65536 * le2 bytes (at + 2)

abbrev pub le8 : List ℕ → ℕ → ℕ
le8 bytes at = le4 bytes at + 4294967296 * le4 bytes (at + 4)
