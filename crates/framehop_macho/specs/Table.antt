-- Tables of fixed rows inside the bytes of `__unwind_info`, and the row of an address in one.
use Rattle.std.specs.Prelude.{◌≡◌, ◌<◌, ◌≤◌, ℕ, ◌+◌, ◌*◌, ◌/◌, ◌%◌, ◌^◌, ◌&&◌, nat_le, nat_lt, List, length, map, take, drop, slice_index, slice_get, if◌then◌else◌, Option, Some, None, IfSome, Result, Ok, Err}
use Rattle.std.specs.List.{range_with_len}
use Rattle.framehop_bytes.specs.Bytes.{le4}
use Rattle.framehop_bytes.specs.Place.{place_of}
use Rattle.framehop_macho.specs.declared.unwind_info.error.CompactReadError.{CompactReadError}
use Rattle.framehop_macho.specs.declared.unwind_info.error.CompactReadError.TheVariants.{Eof}
use Rattle.framehop_macho.specs.declared.unwind_info.table.Row.{Row}

-- so many bytes from an offset on, if they are there
abbrev pub part_of : List ℕ → ℕ → ℕ → Result (List ℕ) CompactReadError
part_of bytes from size =
    if nat_le (from + size) (length bytes) then Ok (take size (drop from bytes)) else Err Eof

-- a number of each row of a table, whose rows have so many bytes
abbrev pub column : (ℕ → ℕ) → ℕ → List ℕ → List ℕ
column number size table =
    map (λ index. number (le4 table (size * index))) (range_with_len 0 (length table / size))

-- where the pages of the index begin: rows of 12 bytes, which begin with an address
unfoldable pub index_starts : List ℕ → List ℕ
index_starts index = column (λ word. word) 12 index

-- where the functions of a regular page begin: rows of 8 bytes, which begin with an address
unfoldable pub regular_starts : List ℕ → List ℕ
regular_starts entries = column (λ word. word) 8 entries

-- where the functions of a compressed page begin: words whose low 24 bits are added to the page's address
unfoldable pub compressed_starts : ℕ → List ℕ → List ℕ
compressed_starts address entries = column (λ word. address + word % 2 ^ 24) 4 entries

-- a list of opcodes: words of 4 bytes
unfoldable pub opcodes_of : List ℕ → List ℕ
opcodes_of opcodes = column (λ word. word) 4 opcodes

-- the row at the place of an address in a table of starts, if it begins at or below the address
unfoldable pub row_of : List ℕ → ℕ → Option Row
row_of starts address = (let place = place_of starts address in
    if nat_lt place (length starts) && nat_le (slice_index starts place) address
    then Some (record { index = place; start = slice_index starts place; next = slice_get starts (place + 1) })
    else None)

-- what holds of that row, however the table is ordered: the row after it begins above the address
pub record IsRow (starts : List ℕ) (address : ℕ) (row : Row) : Type 0 where
  pub within : row.index < length starts
  pub begins : row.start ≡ slice_index starts row.index
  pub below : row.start ≤ address
  pub followed : row.next ≡ slice_get starts (row.index + 1)
  pub above : IfSome row.next (λ next. address < next)

-- the table has no row at or below an address: it is empty, or its first row begins above the address
abbrev pub IsBefore : List ℕ → ℕ → Type 0
IsBefore starts address = (start : ℕ) → slice_get starts 0 ≡ Some start → address < start
