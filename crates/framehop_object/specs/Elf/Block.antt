-- Blocks of a file, and tables, whose entries have one size and lie one after another.
use Rattle.std.specs.Prelude.{◌≡◌, ℕ, ◌+◌, ◌*◌, List, length, take, drop, Result, Ok, Err, nat_le, if◌then◌else◌}
use Rattle.std.specs.Simd.{first_chunks}
use Rattle.framehop_bytes.specs.Bytes.{◌>>=◌}
use Rattle.framehop_object.specs.declared.elf.error.ElfError.{ElfError}
use Rattle.framehop_object.specs.declared.elf.error.ElfError.TheVariants.{Eof, OutOfMemory}

-- so many bytes from an offset on
abbrev pub block_at : List ℕ → ℕ → ℕ → Result (List ℕ) ElfError
block_at file offset size =
    if nat_le (offset + size) (length file) then Ok (take size (drop offset file)) else Err (Eof offset)

-- the bytes of each of so many entries of a size
unfoldable pub table_at : List ℕ → ℕ → ℕ → ℕ → Result (List (List ℕ)) ElfError
table_at file offset count size = do
  block ← block_at file offset (count * size)
  Ok (first_chunks size count block)

-- the error of what is to be read where memory may run out: that of the bytes comes first
abbrev pub IsErrorOf : {A : Type 0} → Result A ElfError → ElfError → Type 0
IsErrorOf (Ok value) error = error ≡ OutOfMemory
IsErrorOf (Err refusal) error = error ≡ refusal
