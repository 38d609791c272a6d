-- Where an entry of a call frame section begins and ends (DWARF 5 sections 6.4.1 and 7.4).
use Rattle.std.specs.Prelude.{ℕ, ◌+◌, ◌≤◌, ◌<◌, List, length, Bool, Result, Ok, Err, ◌==◌, ◌&&◌, nat_lt, nat_le, if◌then◌else◌}
use Rattle.framehop_bytes.specs.Bytes.{◌>>=◌}
use Rattle.framehop_cfi.specs.Numbers.{u32_at, u64_at}
use Rattle.framehop_cfi.specs.declared.extent.EntryExtent.{EntryExtent}
use Rattle.framehop_cfi.specs.declared.read_error.ReadError.{ReadError}
use Rattle.framehop_cfi.specs.declared.read_error.ReadError.TheVariants.{Eof, BadLength}

-- contents of that length, if the section holds them
abbrev pub held : List ℕ → ℕ → ℕ → ℕ → Result EntryExtent ReadError
held bytes size contents len =
    if nat_le (contents + len) (length bytes)
    then Ok (record { contents = contents; end = contents + len; offset_size = size })
    else Err Eof

unfoldable pub long_extent : List ℕ → ℕ → Result EntryExtent ReadError
long_extent bytes at = do
  long ← u64_at bytes at
  held bytes 8 long.1 long.0

-- an entry's length in 4 bytes, or in 8 after four bytes FF; the other values from FFFFFFF0 on are reserved
unfoldable pub extent_at : List ℕ → ℕ → Result EntryExtent ReadError
extent_at bytes at = do
  short ← u32_at bytes at
  if nat_lt short.0 0xFFFFFFF0 then held bytes 4 short.1 short.0
      else (if short.0 == 0xFFFFFFFF then long_extent bytes short.1 else Err BadLength)

-- a length of 0 in 4 bytes, which is no entry
abbrev pub is_zero_length : EntryExtent → Bool
is_zero_length extent = (extent.offset_size == 4) && (extent.contents == extent.end)

-- the contents lie in the bytes, after the offset
pub record IsWithin (bytes : List ℕ) (at : ℕ) (extent : EntryExtent) : Type 0 where
  pub behind : at < extent.contents
  pub ordered : extent.contents ≤ extent.end
  pub held : extent.end ≤ length bytes
