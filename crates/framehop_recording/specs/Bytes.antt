-- What is read at an offset of bytes, with the offset after it, or the refusal to give where the bytes end before it.
use Rattle.std.specs.Prelude.{◌≡◌, ℕ, zero, suc, ◌+◌, ◌-◌, ◌*◌, List, [], ◌∷◌, length, take, drop, Bool, not, bit_and, ◌==◌, Option, Some, None, Result, Ok, Err, nat_le, if◌then◌else◌}
use Rattle.framehop_bytes.specs.Bytes.{◌>>=◌, le2, le4, le8}
use Rattle.framehop_recording.specs.declared.error.RecordingError.{RecordingError}
use Rattle.framehop_recording.specs.declared.error.RecordingError.TheVariants.{OutOfMemory}

-- a value with the offset after it, or the refusal
abbrev pub Reading : Type 0 → Type 0
Reading A = Result (A × ℕ) RecordingError

-- a value of so many bytes
abbrev pub sized_at : {A : Type 0} → A → ℕ → List ℕ → ℕ → RecordingError → Reading A
sized_at value size bytes at short = if nat_le (at + size) (length bytes) then Ok (value, at + size) else Err short

-- little-endian numbers of two, four and eight bytes
unfoldable pub u16_at : List ℕ → ℕ → RecordingError → Reading ℕ
u16_at bytes at short = sized_at (le2 bytes at) 2 bytes at short

unfoldable pub u32_at : List ℕ → ℕ → RecordingError → Reading ℕ
u32_at bytes at short = sized_at (le4 bytes at) 4 bytes at short

unfoldable pub u64_at : List ℕ → ℕ → RecordingError → Reading ℕ
u64_at bytes at short = sized_at (le8 bytes at) 8 bytes at short

-- so many bytes
abbrev pub block_at : List ℕ → ℕ → ℕ → RecordingError → Reading (List ℕ)
block_at bytes at size short = sized_at (take size (drop at bytes)) size bytes at short

-- the word of eight bytes at an offset, if it is there
abbrev pub word_at : List ℕ → ℕ → Option ℕ
word_at bytes at = if nat_le (at + 8) (length bytes) then Some (le8 bytes at) else None

-- the word so many words before the end
abbrev pub word_from_end : List ℕ → ℕ → Option ℕ
word_from_end bytes words =
    if nat_le (8 * words) (length bytes) then word_at bytes (length bytes - 8 * words) else None

-- offsets of so many things of a size, one after another
abbrev pub offsets : ℕ → ℕ → ℕ → List ℕ
offsets start size zero = []
offsets start size (suc count) = start ∷ offsets (start + size) size count

-- what a reader makes of each of a list, or the first refusal
unfoldable pub each_of : {A B : Type 0} → (A → Result B RecordingError) → List A → Result (List B) RecordingError
each_of read [] = Ok []
each_of read (x ∷ xs) = do
  one ← read x
  others ← each_of read xs
  Ok (one ∷ others)

-- the error of what is to be read where memory may run out: that of the bytes comes first
abbrev pub IsErrorOf : {A : Type 0} → Result A RecordingError → RecordingError → Type 0
IsErrorOf (Ok value) error = error ≡ OutOfMemory
IsErrorOf (Err refusal) error = error ≡ refusal

-- a number has the bits of a mask of one bit
abbrev pub has_bit : ℕ → ℕ → Bool
has_bit number mask = not (bit_and number mask == 0)
