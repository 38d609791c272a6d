-- The columns of tables, and lists of opcodes.
use Rattle.std.proofs.Common.{◌≡◌, ℕ, ◌+◌, ◌*◌, ◌/◌, ◌%◌, bit_and, ◌^◌, ◌<◌, ◌≤◌, List, ◌++◌, length, get_or, Option, Some, None, Ok, Err, refl, ap, ◌∙◌, arith, w8, Fits, length-append}
use Rattle.std.specs.List.{slice_get}
use Rattle.std.specs.Option.{unwrap_or}
use Rattle.std.proofs.lemmas.List.{get_or_append_left, get_or-append-add}
use Rattle.std.proofs.lemmas.List.FromFn.{length-map-range_with_len, get_or-map-range_with_len}
use Rattle.std.proofs.lemmas.Nat.{and_mask}
use Rattle.std.proofs.lemmas.Option.{slice_get-get_or, slice_get_past, slice_get_within, get_or_from_slice_get}
use Rattle.framehop_bytes.specs.Bytes.{le4}
use Rattle.framehop_macho.specs.Table.{column, index_starts, regular_starts, compressed_starts, opcodes_of}
use Rattle.framehop_macho.specs.UnwindInfo.{opcode_by_number, found_opcode}
use Rattle.framehop_macho.specs.declared.unwind_info.error.CompactReadError.TheVariants.{BadEncodingIndex}

pub length-column : (number : ℕ → ℕ) (size : ℕ) (table : List ℕ) → length (column number size table) ≡ length table / size
length-column number size table = length-map-range_with_len (λ i. number (le4 table (size * i))) 0 (length table / size)

pub get_or-column : (number : ℕ → ℕ) (size : ℕ) (table : List ℕ) (index : ℕ) → index < length table / size → get_or (column number size table) index 0 ≡ number (le4 table (size * index))
get_or-column number size table index below =
    get_or-map-range_with_len (λ i. number (le4 table (size * i))) 0 (length table / size) index index 0 below (omega arith)

-- ---- the three tables with starts

pub length-index_starts : (table : List ℕ) → length (index_starts table) ≡ length table / 12
unfolding index_starts
length-index_starts table = length-column (λ word. word) 12 table

pub get_or-index_starts : (table : List ℕ) (index : ℕ) → index < length table / 12 → get_or (index_starts table) index 0 ≡ le4 table (12 * index)
unfolding index_starts
get_or-index_starts table index below = get_or-column (λ word. word) 12 table index below

pub length-regular_starts : (table : List ℕ) → length (regular_starts table) ≡ length table / 8
unfolding regular_starts
length-regular_starts table = length-column (λ word. word) 8 table

pub get_or-regular_starts : (table : List ℕ) (index : ℕ) → index < length table / 8 → get_or (regular_starts table) index 0 ≡ le4 table (8 * index)
unfolding regular_starts
get_or-regular_starts table index below = get_or-column (λ word. word) 8 table index below

pub length-compressed_starts : (page : ℕ) (table : List ℕ) → length (compressed_starts page table) ≡ length table / 4
unfolding compressed_starts
length-compressed_starts page table = length-column (λ word. page + word % 2 ^ 24) 4 table

pub get_or-compressed_starts : (page : ℕ) (table : List ℕ) (index : ℕ) → index < length table / 4 → get_or (compressed_starts page table) index 0 ≡ page + le4 table (4 * index) % 2 ^ 24
unfolding compressed_starts
get_or-compressed_starts page table index below = get_or-column (λ word. page + word % 2 ^ 24) 4 table index below

-- ---- starts that fit 32 bits

pub le4-fits : (bytes : List ℕ) (at : ℕ) → ((k : ℕ) → Fits w8 (get_or bytes k 0)) → le4 bytes at < 2 ^ 32
le4-fits bytes at small =
    let a = small at in
    let b = small (at + 1) in
    let c = small (at + 2) in
    let d = small (at + 2 + 1) in
    omega arith

pub next-index_starts : (table : List ℕ) (index start : ℕ) → ((k : ℕ) → Fits w8 (get_or table k 0)) → slice_get (index_starts table) index ≡ Some start → start < 2 ^ 32
next-index_starts table index start small is =
    let within = slice_get_within (index_starts table) index start is in
    let there = get_or_from_slice_get (index_starts table) index start 0 is in
    let number = get_or-index_starts table index (omega (arith, length-index_starts table)) in
    omega (arith, there, number, le4-fits table (12 * index) small)

pub next-regular_starts : (table : List ℕ) (index start : ℕ) → ((k : ℕ) → Fits w8 (get_or table k 0)) → slice_get (regular_starts table) index ≡ Some start → start < 2 ^ 32
next-regular_starts table index start small is =
    let within = slice_get_within (regular_starts table) index start is in
    let there = get_or_from_slice_get (regular_starts table) index start 0 is in
    let number = get_or-regular_starts table index (omega (arith, length-regular_starts table)) in
    omega (arith, there, number, le4-fits table (8 * index) small)

-- the end of a row, where the row after it and the next page fit
pub unwrap_or-fits : (next : Option ℕ) (page : ℕ) → page < 2 ^ 32 → ((start : ℕ) → next ≡ Some start → start < 2 ^ 32) → unwrap_or next page < 2 ^ 32
unwrap_or-fits None page fits each = fits
unwrap_or-fits (Some start) page fits each = each start refl

-- the low 24 bits
pub low_bits : (word : ℕ) → bit_and word 16777215 ≡ word % 2 ^ 24
low_bits word = and_mask word 24

-- ---- opcodes

length-opcodes_of : (table : List ℕ) → length (opcodes_of table) ≡ length table / 4
unfolding opcodes_of
length-opcodes_of table = length-column (λ word. word) 4 table

get_or-opcodes_of : (table : List ℕ) (index : ℕ) → index < length table / 4 → get_or (opcodes_of table) index 0 ≡ le4 table (4 * index)
unfolding opcodes_of
get_or-opcodes_of table index below = get_or-column (λ word. word) 4 table index below

pub opcode_by_number-common : (common own : List ℕ) (number : ℕ) → number < length common / 4 → opcode_by_number common own number ≡ Ok (le4 common (4 * number))
unfolding opcode_by_number
opcode_by_number-common common own number below =
    let within : number < length (opcodes_of common) = omega (arith, length-opcodes_of common) in
    let all : number < length (opcodes_of common ++ opcodes_of own) = rw length-append (omega arith) in
    ap found_opcode (slice_get-get_or (opcodes_of common ++ opcodes_of own) number 0 all)
    ∙ ap Ok (get_or_append_left (opcodes_of common) (opcodes_of own) 0 number within ∙ get_or-opcodes_of common number below)

pub opcode_by_number-own : (common own : List ℕ) (number rest : ℕ) → number ≡ length common / 4 + rest → rest < length own / 4 → opcode_by_number common own number ≡ Ok (le4 own (4 * rest))
unfolding opcode_by_number
opcode_by_number-own common own number rest is below =
    let place : number ≡ length (opcodes_of common) + rest = omega (arith, length-opcodes_of common) in
    let all : number < length (opcodes_of common ++ opcodes_of own) = rw length-append (omega (arith, length-opcodes_of own)) in
    ap found_opcode (slice_get-get_or (opcodes_of common ++ opcodes_of own) number 0 all)
    ∙ ap Ok (ap (λ n. get_or (opcodes_of common ++ opcodes_of own) n 0) place ∙ get_or-append-add (opcodes_of common) (opcodes_of own) rest 0 ∙ get_or-opcodes_of own rest below)

pub opcode_by_number-beyond : (common own : List ℕ) (number : ℕ) → length common / 4 + length own / 4 ≤ number → opcode_by_number common own number ≡ Err BadEncodingIndex
unfolding opcode_by_number
opcode_by_number-beyond common own number beyond =
    let past : length (opcodes_of common ++ opcodes_of own) ≤ number = rw length-append (omega (arith, length-opcodes_of common, length-opcodes_of own)) in
    ap found_opcode (slice_get_past (opcodes_of common ++ opcodes_of own) number past)
