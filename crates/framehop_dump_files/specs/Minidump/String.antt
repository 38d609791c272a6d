-- The strings of a minidump: MINIDUMP_STRING, whose Length counts the bytes of Buffer without the 0 after it.
use Rattle.std.specs.Prelude.{ℕ, ◌+◌, ◌%◌, List, map, not, Result, Ok, Err, ◌==◌, if◌then◌else◌}
use Rattle.std.specs.Char.Utf16.{utf16_lossy_chars}
use Rattle.std.specs.Str.{encode_utf8_all}
use Rattle.framehop_bytes.specs.Bytes.{◌>>=◌, le2, le4}
use Rattle.framehop_dump_files.specs.Minidump.Location.{block_at, entries_in}
use Rattle.framehop_dump_files.specs.declared.minidump.error.MinidumpError.{MinidumpError}
use Rattle.framehop_dump_files.specs.declared.minidump.error.MinidumpError.TheVariants.{OddString}

-- a unit of UTF-16
abbrev pub unit_at : List ℕ → ℕ
unit_at bytes = le2 bytes 0

-- the units of UTF-16 of the string at an offset of the file
unfoldable pub units_of : List ℕ → ℕ → Result (List ℕ) MinidumpError
units_of file offset = do
  length ← block_at file offset 4
  if not (le4 length 0 % 2 == 0) then Err (OddString offset) else (do
    units ← block_at file (offset + 4) (le4 length 0)
    Ok (map unit_at (entries_in 2 units)))

-- what they spell, as UTF-8; each surrogate that has no partner is U+FFFD
abbrev pub text_of : List ℕ → List ℕ
text_of units = encode_utf8_all (utf16_lossy_chars units)

unfoldable pub string_of : List ℕ → ℕ → Result (List ℕ) MinidumpError
string_of file offset = do
  units ← units_of file offset
  Ok (text_of units)
