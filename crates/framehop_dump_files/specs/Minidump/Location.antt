-- Blocks of a file, and entries of one size that lie one after another.
use Rattle.std.specs.Prelude.{◌≡◌, ℕ, ◌+◌, ◌/◌, List, length, take, drop, Result, Ok, Err, nat_le, if◌then◌else◌}
use Rattle.std.specs.Simd.{first_chunks}
use Rattle.framehop_bytes.specs.Bytes.{le4}
use Rattle.framehop_dump_files.specs.declared.minidump.error.MinidumpError.{MinidumpError}
use Rattle.framehop_dump_files.specs.declared.minidump.error.MinidumpError.TheVariants.{Eof, OutOfMemory}
use Rattle.framehop_dump_files.specs.declared.minidump.location.Location.{Location}

-- so many bytes from an offset on
abbrev pub block_at : List ℕ → ℕ → ℕ → Result (List ℕ) MinidumpError
block_at file offset size =
    if nat_le (offset + size) (length file) then Ok (take size (drop offset file)) else Err (Eof offset)

-- MINIDUMP_LOCATION_DESCRIPTOR: DataSize and Rva
abbrev pub location_at : List ℕ → ℕ → Location
location_at entry at = record { size = le4 entry at; offset = le4 entry (at + 4) }

-- what is there
abbrev pub located : List ℕ → Location → Result (List ℕ) MinidumpError
located file location = block_at file location.offset location.size

-- the entries of a size
abbrev pub entries_in : ℕ → List ℕ → List (List ℕ)
entries_in size bytes = first_chunks size (length bytes / size) bytes

-- the error of what is to be read where memory may run out: that of the bytes comes first
abbrev pub IsErrorOf : {A : Type 0} → Result A MinidumpError → MinidumpError → Type 0
IsErrorOf (Ok value) error = error ≡ OutOfMemory
IsErrorOf (Err refusal) error = error ≡ refusal
