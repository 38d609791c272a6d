-- The functions that a PE file exports, as symbols.
-- The function table: Microsoft, "x64 exception handling", struct RUNTIME_FUNCTION: it is in the order of addresses, and only a
-- leaf function is not in it.
use Rattle.std.specs.Prelude.{ℕ, ◌+◌, ◌-◌, nat_lt, List, [], map, Option, Some, None, option_and_then, unwrap_or, slice_get, if◌then◌else◌}
use Rattle.framehop_bytes.specs.Place.{place_of}
use Rattle.framehop_object.specs.declared.elf.symbol.Symbol.{Symbol}
use Rattle.framehop_pe.specs.FunctionTable.{starts_of, function_of}
use Rattle.framehop_pe.specs.declared.unwind_info.function_table.RuntimeFunction.{RuntimeFunction}
use Rattle.framehop_object.specs.Pe.Exports.{exports_in}
use Rattle.framehop_object.specs.declared.pe.exports.Export.{Export}
use Rattle.framehop_object.specs.declared.pe.header.DataDirectory.{DataDirectory}
use Rattle.framehop_object.specs.declared.pe.header.FileHeader.{FileHeader}

-- of starts in order, the one that comes after an address: the one at its place where that is above it, else the next
abbrev pub start_above_or : List ℕ → ℕ → ℕ → ℕ → Option ℕ
start_above_or starts address at start = if nat_lt address start then Some start else slice_get starts (at + 1)

abbrev pub start_after : List ℕ → ℕ → Option ℕ
start_after starts address = let at = place_of starts address in
    option_and_then (start_above_or starts address at) (slice_get starts at)

-- a function that the table has ends where the table says
abbrev pub end_of : RuntimeFunction → ℕ
end_of function = function.end_address

-- another one ends before the next of the table, or with the image
abbrev pub end_of_leaf : ℕ → List ℕ → ℕ → ℕ
end_of_leaf size_of_image starts address = unwrap_or (start_after starts address) size_of_image

abbrev pub end_by : ℕ → List ℕ → ℕ → Option RuntimeFunction → ℕ
end_by size_of_image starts address (Some function) = end_of function
end_by size_of_image starts address None = end_of_leaf size_of_image starts address

-- how many bytes a function has at most
abbrev pub size_of : ℕ → List ℕ → ℕ → ℕ
size_of size_of_image pdata address =
    end_by size_of_image (starts_of pdata) address (function_of pdata address) - address

-- an export as a symbol, whose name begins in the export directory
abbrev pub symbol_of : ℕ → List ℕ → Export → Symbol
symbol_of size_of_image pdata export =
    record { st_name = export.name; st_value = export.address; size = size_of size_of_image pdata export.address }

abbrev pub symbols_at : ℕ → List ℕ → List ℕ → Option DataDirectory → List Symbol
symbols_at size_of_image pdata directory None = []
symbols_at size_of_image pdata directory (Some place) =
    map (symbol_of size_of_image pdata) (exports_in place.virtual_address directory)

-- the symbols of a file, whose export directory has these bytes
abbrev pub symbols_of : FileHeader → List ℕ → List ℕ → List Symbol
symbols_of header pdata directory = symbols_at header.size_of_image pdata directory header.export_directory
