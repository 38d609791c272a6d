-- The function table of a PE module (Microsoft, "x64 exception handling", struct RUNTIME_FUNCTION).
-- The place of an address is `place_of` of `framehop_bytes`.
use Rattle.std.specs.Prelude.{ℕ, ◌*◌, ◌/◌, ◌&&◌, nat_le, nat_lt, List, length, map, if◌then◌else◌, Option, Some, None, option_and_then, drop}
use Rattle.std.specs.List.{range_with_len}
use Rattle.framehop_bytes.specs.Bytes.{le4}
use Rattle.framehop_bytes.specs.Place.{place_of}
use Rattle.framehop_pe.specs.declared.unwind_info.function_table.RuntimeFunction.{RuntimeFunction}

-- an entry at the front of bytes: three numbers of four bytes
abbrev pub function_at : List ℕ → Option RuntimeFunction
function_at bytes =
    if nat_le 12 (length bytes) then Some (record {
      begin_address = le4 bytes 0;
      end_address = le4 bytes 4;
      unwind_info_address = le4 bytes 8;
    }) else None

-- where the entries begin; bytes after the last whole entry are no entry
unfoldable pub starts_of : List ℕ → List ℕ
starts_of pdata = map (λ i. le4 pdata (12 * i)) (range_with_len 0 (length pdata / 12))

-- the function covers the address
abbrev pub covers : RuntimeFunction → ℕ → Option RuntimeFunction
covers function address =
    if nat_le function.begin_address address && nat_lt address function.end_address then Some function else None

-- the function of an address: the entry at its place in the table, if that covers it
unfoldable pub function_of : List ℕ → ℕ → Option RuntimeFunction
function_of pdata address =
    let entry = function_at (drop (12 * place_of (starts_of pdata) address) pdata) in
    option_and_then (λ function. covers function address) entry
