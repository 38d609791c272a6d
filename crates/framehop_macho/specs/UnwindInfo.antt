-- The section `__unwind_info` (Apple, mach-o/compact_unwind_encoding.h): which function an address is in.
use Rattle.std.specs.Prelude.{◌≡◌, ◌⊎◌, ℕ, ◌≤◌, ◌<◌, ◌+◌, ◌-◌, ◌*◌, ◌/◌, ◌^◌, ◌==◌, nat_le, nat_lt, List, ◌++◌, length, slice_get, if◌then◌else◌, Option, Some, None, Result, Ok, Err, unwrap_or}
use Rattle.framehop_bytes.specs.Bytes.{◌>>=◌, le2, le4}
use Rattle.framehop_macho.specs.Table.{part_of, index_starts, regular_starts, compressed_starts, opcodes_of, row_of, IsBefore}
use Rattle.framehop_macho.specs.declared.unwind_info.error.CompactReadError.{CompactReadError}
use Rattle.framehop_macho.specs.declared.unwind_info.error.CompactReadError.TheVariants.{Eof, BadVersion, BadPageKind, BadEncodingIndex, AddressTooBig}
use Rattle.framehop_macho.specs.declared.unwind_info.info.Function.{Function}
use Rattle.framehop_macho.specs.declared.unwind_info.info.PageEntry.{PageEntry}
use Rattle.framehop_macho.specs.declared.unwind_info.info.UnwindInfo.{UnwindInfo}
use Rattle.framehop_macho.specs.declared.unwind_info.page.Page.{Page as LentPage}
use Rattle.framehop_macho.specs.declared.unwind_info.page.Page.TheVariants.{Regular, Compressed}
use Rattle.framehop_macho.specs.declared.unwind_info.table.Row.{Row}

-- ---- the header

-- the lists that all pages share: the common opcodes and the index, as bytes
pub record Lists : Type 0 where
  pub opcodes : List ℕ
  pub index : List ℕ

-- The header has seven words: the version; offset and count of the common opcodes, of the personalities and of the
-- index entries. The last index entry is a sentinel.
abbrev pub shared_lists_in : List ℕ → Result Lists CompactReadError
shared_lists_in data' =
    part_of data' (le4 data' 4) (4 * le4 data' 8) >>= (λ opcodes.
    part_of data' (le4 data' 20) (12 * le4 data' 24) >>= (λ index.
    Ok (record { opcodes = opcodes; index = index })))

-- those of a header of version 1
unfoldable pub shared_lists_of : List ℕ → Result Lists CompactReadError
shared_lists_of data' =
    if nat_lt (length data') 28 then Err Eof
    else (if le4 data' 0 == 1 then shared_lists_in data' else Err BadVersion)

-- the same, as they are lent
abbrev pub shared_lists : UnwindInfo → Lists
shared_lists info = record { opcodes = info.common_opcodes.now; index = info.index.now }

-- ---- pages

-- a page: entries of addresses and opcodes, or entries of words with opcodes of its own
pub data Page : Type 0 where
  regular : List ℕ → Page
  compressed : List ℕ → List ℕ → Page

-- the same, as it is lent
abbrev pub page_of : LentPage → Page
page_of (Regular entries) = regular entries.now
page_of (Compressed entries opcodes) = compressed entries.now opcodes.now

-- a page of rows with an address and an opcode, and one of words with its own opcodes
abbrev pub regular_page : List ℕ → ℕ → Result Page CompactReadError
regular_page data' at =
    if nat_lt (length data') (at + 8) then Err Eof
    else (part_of data' (at + le2 data' (at + 4)) (8 * le2 data' (at + 6)) >>= (λ entries.
    Ok (regular entries)))

abbrev pub compressed_page : List ℕ → ℕ → Result Page CompactReadError
compressed_page data' at =
    if nat_lt (length data') (at + 12) then Err Eof
    else (part_of data' (at + le2 data' (at + 4)) (4 * le2 data' (at + 6)) >>= (λ entries.
    part_of data' (at + le2 data' (at + 8)) (4 * le2 data' (at + 10)) >>= (λ opcodes.
    Ok (compressed entries opcodes))))

-- the page at an offset: its kind, then where its tables lie, from its own beginning on
unfoldable pub page_at : List ℕ → ℕ → Result Page CompactReadError
page_at data' at =
    if nat_lt (length data') (at + 4) then Err Eof
    else (if le4 data' at == 2 then regular_page data' at
    else (if le4 data' at == 3 then compressed_page data' at
    else Err BadPageKind))

-- ---- functions

-- the address lies in the function
pub record Covers (address : ℕ) (function : Function) : Type 0 where
  pub from_start : function.start_address ≤ address
  pub below_end : address < function.end_address

-- a function that ends above an address
abbrev pub up_to : ℕ → Function → Option Function
up_to address function = if nat_lt address function.end_address then Some function else None

-- the function of a row of a regular page; the last one ends where the next page begins
abbrev pub regular_function : List ℕ → ℕ → Row → Function
regular_function entries next_page row = record {
  start_address = row.start;
  end_address = unwrap_or row.next next_page;
  opcode = le4 entries (8 * row.index + 4);
}

-- the function that an address has in a regular page, if its row's function reaches to it
abbrev pub in_regular : List ℕ → ℕ → ℕ → Option Row → Option Function
in_regular entries next_page address None = None
in_regular entries next_page address (Some row) = up_to address (regular_function entries next_page row)

-- the opcode of a number: the common opcodes come first, then those of the page
abbrev pub found_opcode : Option ℕ → Result ℕ CompactReadError
found_opcode None = Err BadEncodingIndex
found_opcode (Some opcode) = Ok opcode

unfoldable pub opcode_by_number : List ℕ → List ℕ → ℕ → Result ℕ CompactReadError
opcode_by_number common own number = found_opcode (slice_get (opcodes_of common ++ opcodes_of own) number)

-- the function of a row of a compressed page: the high 8 bits of its word are the opcode's number
abbrev pub compressed_function : List ℕ → List ℕ → List ℕ → ℕ → Row → ℕ → Result (Option Function) CompactReadError
compressed_function common entries opcodes address row end =
    if nat_le (2 ^ 32) end then Err AddressTooBig
    else (if nat_le end address then Ok None
    else (opcode_by_number common opcodes (le4 entries (4 * row.index) / 2 ^ 24) >>= (λ opcode.
    Ok (Some (record { start_address = row.start; end_address = end; opcode = opcode })))))

-- the same in a compressed page
abbrev pub in_compressed : List ℕ → List ℕ → List ℕ → ℕ → ℕ → Option Row → Result (Option Function) CompactReadError
in_compressed common entries opcodes next_page address None = Ok None
in_compressed common entries opcodes next_page address (Some row) =
    compressed_function common entries opcodes address row (unwrap_or row.next next_page)

-- the function of an address in a page, between the addresses where the page and the next one begin
abbrev pub in_page : List ℕ → ℕ → ℕ → ℕ → Page → Result (Option Function) CompactReadError
in_page common page next_page address (regular entries) =
    Ok (in_regular entries next_page address (row_of (regular_starts entries) address))
in_page common page next_page address (compressed entries opcodes) =
    in_compressed common entries opcodes next_page address (row_of (compressed_starts page entries) address)

-- the page of a row of the index; the sentinel, which has no row after it, has none
abbrev pub entry_before : List ℕ → Row → Option ℕ → Option PageEntry
entry_before index row None = None
entry_before index row (Some next_page) = Some (record {
  page_address = row.start;
  next_page_address = next_page;
  page_offset = le4 index (12 * row.index + 4);
})

abbrev pub entry_of_row : List ℕ → Option Row → Option PageEntry
entry_of_row index None = None
entry_of_row index (Some row) = entry_before index row row.next

-- the page of an address, by place in the index
unfoldable pub page_entry_of : List ℕ → ℕ → Option PageEntry
page_entry_of index address = entry_of_row index (row_of (index_starts index) address)

-- no page has an address: the index has no row at or below it, or the last one is, which is the sentinel
abbrev pub IsOutsideIndex : List ℕ → ℕ → Type 0
IsOutsideIndex starts address =
    IsBefore starts address ⊎ ((last : ℕ) × (slice_get starts (length starts - 1) ≡ Some last) × (last ≤ address))

-- the address lies in the page
pub record IsInPage (address : ℕ) (entry : PageEntry) : Type 0 where
  pub from_start : entry.page_address ≤ address
  pub below_end : address < entry.next_page_address

-- where the functions of a page begin, in a page from an address on
abbrev pub starts_in : ℕ → Page → List ℕ
starts_in page (regular entries) = regular_starts entries
starts_in page (compressed entries opcodes) = compressed_starts page entries

-- no function has an address: no page has it, or its page has no row at or below it
pub data IsOutside (data' : List ℕ) (lists : Lists) (address : ℕ) : Type 0 where
  of_index : IsOutsideIndex (index_starts lists.index) address → IsOutside data' lists address
  of_page : (entry : PageEntry) (page : Page) → page_entry_of lists.index address ≡ Some entry
      → page_at data' entry.page_offset ≡ Ok page → IsBefore (starts_in entry.page_address page) address
      → IsOutside data' lists address

-- the function of an address in a page, and by the index
abbrev pub in_entry : List ℕ → Lists → ℕ → Option PageEntry → Result (Option Function) CompactReadError
in_entry data' lists address None = Ok None
in_entry data' lists address (Some entry) =
    page_at data' entry.page_offset >>= (λ page.
    in_page lists.opcodes entry.page_address entry.next_page_address address page)

abbrev pub in_lists : List ℕ → Lists → ℕ → Result (Option Function) CompactReadError
in_lists data' lists address = in_entry data' lists address (page_entry_of lists.index address)

-- the function of an address (relative to the module's base), found by place in the index and then in a page
unfoldable pub function_of : List ℕ → ℕ → Result (Option Function) CompactReadError
function_of data' address = shared_lists_of data' >>= (λ lists. in_lists data' lists address)

-- the header is read, and no function has the address
abbrev pub HasNoFunction : List ℕ → ℕ → Type 0
HasNoFunction data' address =
    (lists : Lists) × (shared_lists_of data' ≡ Ok lists) × IsOutside data' lists address
