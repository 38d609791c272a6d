-- Blocks of a file, and entries of one size that lie one after another.
use Rattle.std.specs.Prelude.{◌≡◌, ℕ, ◌+◌, ◌/◌, List, length, take, drop, Result, Ok, Err, nat_le, if◌then◌else◌}
use Rattle.std.specs.Simd.{first_chunks}
use Rattle.framehop_object.specs.declared.pe.error.PeError.{PeError}
use Rattle.framehop_object.specs.declared.pe.error.PeError.TheVariants.{Eof, OutOfMemory}

-- so many bytes from an offset on
abbrev pub block_at : List ℕ → ℕ → ℕ → Result (List ℕ) PeError
block_at file offset size =
    if nat_le (offset + size) (length file) then Ok (take size (drop offset file)) else Err (Eof offset)

-- the entries of a size
abbrev pub entries_in : ℕ → List ℕ → List (List ℕ)
entries_in size bytes = first_chunks size (length bytes / size) bytes

-- the error of what is to be read where memory may run out: that of the bytes comes first
abbrev pub IsErrorOf : {A : Type 0} → Result A PeError → PeError → Type 0
IsErrorOf (Ok value) error = error ≡ OutOfMemory
IsErrorOf (Err refusal) error = error ≡ refusal
