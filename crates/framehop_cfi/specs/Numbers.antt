-- Numbers in call frame sections, each with the offset after it.
-- (DWARF 5 section 7.27.)
use Rattle.std.specs.Prelude.{ℕ, ◌+◌, List, length, slice_index, Result, Ok, Err, nat_le, if◌then◌else◌}
use Rattle.framehop_bytes.specs.Bytes.{le2, le4, le8}
use Rattle.framehop_cfi.specs.declared.read_error.ReadError.{ReadError}
use Rattle.framehop_cfi.specs.declared.read_error.ReadError.TheVariants.{Eof}

-- what is read at an offset: a value and the offset after it, or why there is none
abbrev pub Parsed : Type 0 → Type 0
Parsed A = Result (A × ℕ) ReadError

-- a number of that size, if the bytes hold it
abbrev pub sized_at : ℕ → ℕ → List ℕ → ℕ → Parsed ℕ
sized_at number size bytes at = if nat_le (at + size) (length bytes) then Ok (number, at + size) else Err Eof

-- numbers of one, two, four and eight bytes, little-endian
unfoldable pub u8_at : List ℕ → ℕ → Parsed ℕ
u8_at bytes at = sized_at (slice_index bytes at) 1 bytes at

unfoldable pub u16_at : List ℕ → ℕ → Parsed ℕ
u16_at bytes at = sized_at (le2 bytes at) 2 bytes at

unfoldable pub u32_at : List ℕ → ℕ → Parsed ℕ
u32_at bytes at = sized_at (le4 bytes at) 4 bytes at

unfoldable pub u64_at : List ℕ → ℕ → Parsed ℕ
u64_at bytes at = sized_at (le8 bytes at) 8 bytes at
