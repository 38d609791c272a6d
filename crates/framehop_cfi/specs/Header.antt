-- The binary search table of `.eh_frame_hdr` (LSB, ".eh_frame_hdr").
use Rattle.std.specs.Prelude.{ℕ, ◌+◌, ◌-◌, ◌*◌, ◌^◌, ◌≡◌, List, length, map, Option, Some, None, Result, Ok, Err, ◌==◌, ◌||◌, ◌&&◌, nat_le, nat_lt, if◌then◌else◌}
use Rattle.std.specs.List.{range_with_len}
use Rattle.framehop_bytes.specs.Bytes.{◌>>=◌}
use Rattle.framehop_cfi.specs.Numbers.{Parsed, u8_at}
use Rattle.framehop_cfi.specs.Raw.{raw_at, format_of}
use Rattle.framehop_cfi.specs.Pointer.{pointer_at}
use Rattle.framehop_cfi.specs.PointerEncoding.{DW_EH_PE_udata2, DW_EH_PE_udata4, DW_EH_PE_udata8, DW_EH_PE_sdata2, DW_EH_PE_sdata4, DW_EH_PE_sdata8, DW_EH_PE_pcrel, DW_EH_PE_funcrel, DW_EH_PE_indirect}
use Rattle.framehop_bytes.specs.Place.{place_of, IsPlace}
use Rattle.framehop_cfi.specs.declared.pointer.SectionBaseAddresses.{SectionBaseAddresses}
use Rattle.framehop_cfi.specs.Layout.{Layout}
use Rattle.framehop_cfi.specs.declared.read_error.ReadError.{ReadError}
use Rattle.framehop_cfi.specs.declared.read_error.ReadError.TheVariants.{Eof, BadEncoding, UnknownVersion}

-- the size of a table's numbers, by their format
abbrev pub size_of_format : ℕ → Result ℕ ReadError
size_of_format format =
    if (format == DW_EH_PE_udata2) || (format == DW_EH_PE_sdata2) then Ok 2
    else (if (format == DW_EH_PE_udata4) || (format == DW_EH_PE_sdata4) then Ok 4
    else (if (format == DW_EH_PE_udata8) || (format == DW_EH_PE_sdata8) then Ok 8
    else Err BadEncoding))

-- an encoding that the table may have: neither indirect nor omitted, and counted from something that is known
abbrev pub table_size : ℕ → Result ℕ ReadError
table_size encoding =
    if nat_lt encoding DW_EH_PE_funcrel then size_of_format (format_of encoding) else Err BadEncoding

-- the rows, if there are any and the bytes hold them
abbrev pub held_rows : ℕ → ℕ → ℕ → ℕ → ℕ → List ℕ → Result Layout ReadError
held_rows pointer encoding size count at bytes =
    if (nat_lt 0 count) && nat_le (at + 2 * size * count) (length bytes)
    then Ok (record { eh_frame_pointer = pointer; encoding = encoding; size = size; count = count; rows = at })
    else Err Eof

-- the three encodings after the version, and what they encode
unfoldable pub encoded_at : SectionBaseAddresses → ℕ → ℕ → ℕ → List ℕ → ℕ → Result Layout ReadError
encoded_at bases pointer_encoding count_encoding table_encoding bytes at = do
  pointer ← pointer_at bases pointer_encoding bytes at
  count ← raw_at (format_of count_encoding) bytes pointer.1
  size ← table_size table_encoding
  held_rows pointer.0 table_encoding size count.0 count.1 bytes

-- neither the pointer nor the count is indirect or omitted, and the count counts from nothing
abbrev pub checked_at : SectionBaseAddresses → ℕ → ℕ → ℕ → List ℕ → ℕ → Result Layout ReadError
checked_at bases pointer_encoding count_encoding table_encoding bytes at =
    if nat_lt pointer_encoding DW_EH_PE_indirect && nat_lt count_encoding DW_EH_PE_pcrel
    then encoded_at bases pointer_encoding count_encoding table_encoding bytes at
    else Err BadEncoding

-- the layout of the table by the encodings of the header
unfoldable pub encodings_at : SectionBaseAddresses → List ℕ → ℕ → Result Layout ReadError
encodings_at bases bytes at = do
  pointer ← u8_at bytes at
  count ← u8_at bytes pointer.1
  table ← u8_at bytes count.1
  checked_at bases pointer.0 count.0 table.0 bytes table.1

-- the header
unfoldable pub layout_of : SectionBaseAddresses → List ℕ → Result Layout ReadError
layout_of bases bytes = do
  version ← u8_at bytes 0
  if version.0 == 1 then encodings_at bases bytes version.1 else Err UnknownVersion

-- a number that stands where one is known to stand
abbrev pub value_or_zero : Parsed ℕ → ℕ
value_or_zero (Ok read) = read.0
value_or_zero (Err error) = 0

-- a row's start, and the address of its FDE
unfoldable pub start_of_row : SectionBaseAddresses → Layout → List ℕ → ℕ → ℕ
start_of_row bases layout bytes index =
    value_or_zero (pointer_at bases layout.encoding bytes (layout.rows + 2 * layout.size * index))

unfoldable pub fde_of_row : SectionBaseAddresses → Layout → List ℕ → ℕ → ℕ
fde_of_row bases layout bytes index =
    value_or_zero (pointer_at bases layout.encoding bytes (layout.rows + 2 * layout.size * index + layout.size))

-- all the starts
unfoldable pub starts_of : SectionBaseAddresses → Layout → List ℕ → List ℕ
starts_of bases layout bytes = map (start_of_row bases layout bytes) (range_with_len 0 layout.count)

-- an FDE's offset in `.eh_frame`, if it fits 32 bits
abbrev pub offset_from : ℕ → ℕ → Option ℕ
offset_from pointer address =
    if nat_le pointer address && nat_lt (address - pointer) (2 ^ 32) then Some (address - pointer) else None

-- the offset of the FDE in the row at the address's place
abbrev pub fde_offset_of : SectionBaseAddresses → Layout → List ℕ → ℕ → Option ℕ
fde_offset_of bases layout bytes address =
    offset_from layout.eh_frame_pointer (fde_of_row bases layout bytes (place_of
    (starts_of bases layout bytes) address))

-- a header: what its pointers count from, and its bytes
pub record Header : Type 0 where
  pub bases : SectionBaseAddresses
  pub bytes : List ℕ

-- the offset of the FDE that a header has for an address; one that can't be read has none
abbrev pub fde_offset_by : Header → Result Layout ReadError → ℕ → Option ℕ
fde_offset_by header (Ok layout) address = fde_offset_of header.bases layout header.bytes address
fde_offset_by header (Err error) address = None

unfoldable pub fde_offset_in : Header → ℕ → Option ℕ
fde_offset_in header address = fde_offset_by header (layout_of header.bases header.bytes) address

-- what holds of that offset, however the starts lie: its row starts at or below the address, or is the first, and the
-- next one starts above
pub record IsOfRowFor (header : Header) (address : ℕ) (offset : Option ℕ) : Type 0 where
  pub layout : Layout
  pub row : ℕ
  pub is_layout : layout_of header.bases header.bytes ≡ Ok layout
  pub is_place : IsPlace (starts_of header.bases layout header.bytes) address row
  pub is_offset : offset_from layout.eh_frame_pointer (fde_of_row header.bases layout header.bytes row) ≡ offset
