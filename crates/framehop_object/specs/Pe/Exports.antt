-- What a file exports by names ("PE Format", "The .edata Section (Image Only)").
-- Where the tables are: "Export Directory Table". A forwarder: "Export Address Table".
use Rattle.std.specs.Prelude.{ℕ, ◌+◌, ◌-◌, ◌*◌, Bool, not, ◌&&◌, nat_le, nat_lt, List, [], length, take, drop, zip, filter_map, Option, Some, None, option_and_then, Result, Ok, if◌then◌else◌}
use Rattle.framehop_bytes.specs.Bytes.{le2, le4}
use Rattle.framehop_object.specs.Pe.Numbers.{EXPORT_DIRECTORY_SIZE}
use Rattle.framehop_object.specs.Pe.Block.{entries_in}
use Rattle.framehop_object.specs.Pe.PeFile.{PeFile}
use Rattle.framehop_object.specs.Pe.Rva.{bytes_at}
use Rattle.framehop_object.specs.declared.pe.error.PeError.{PeError}
use Rattle.framehop_object.specs.declared.pe.exports.Export.{Export}
use Rattle.framehop_object.specs.declared.pe.header.DataDirectory.{DataDirectory}

-- the bytes of the export directory, none where there is no such data directory
abbrev pub directory_bytes_in : PeFile → Option DataDirectory → Result (List ℕ) PeError
directory_bytes_in pe None = Ok []
directory_bytes_in pe (Some directory) =
    bytes_at pe directory.virtual_address directory.size

abbrev pub directory_bytes_of : PeFile → Result (List ℕ) PeError
directory_bytes_of pe = directory_bytes_in pe pe.header.export_directory

-- a table of a size at an RVA, as far as the directory has it, which begins at `start`
abbrev pub table_at : ℕ → List ℕ → ℕ → ℕ → List ℕ
table_at start directory rva size = if nat_le start rva then take size (drop (rva - start) directory) else []

-- the address of an ordinal without its base
abbrev pub address_at : List ℕ → ℕ → Option ℕ
address_at addresses ordinal =
    if nat_le (4 * ordinal + 4) (length addresses) then Some (le4 addresses (4 * ordinal)) else None

-- an address in the directory is that of a text, the name of what another file has
abbrev pub is_forwarder : ℕ → List ℕ → ℕ → Bool
is_forwarder start directory address = nat_le start address && nat_lt (address - start) (length directory)

-- what a name pointer and the ordinal beside it export
abbrev pub export_at : ℕ → List ℕ → List ℕ → List ℕ × List ℕ → Option Export
export_at start directory addresses entry = option_and_then
    (λ address. if not (is_forwarder start directory address) && nat_le start (le4 entry.0 0)
    then Some (record { name = le4 entry.0 0 - start; address = address }) else None)
    (address_at addresses (le2 entry.1 0))

abbrev pub exports_from : ℕ → List ℕ → List ℕ → List (List ℕ) → List (List ℕ) → List Export
exports_from start directory addresses names ordinals =
    filter_map (export_at start directory addresses) (zip names ordinals)

-- Address Table Entries is at 20, Number of Name Pointers at 24, and then the RVAs of the three tables: of addresses, of name
-- pointers, and of ordinals
abbrev pub exports_in : ℕ → List ℕ → List Export
exports_in start directory = if nat_lt (length directory) EXPORT_DIRECTORY_SIZE then []
    else exports_from start directory (table_at start directory (le4 directory 28) (4 * le4 directory 20))
    (entries_in 4 (table_at start directory (le4 directory 32) (4 * le4 directory 24)))
    (entries_in 2 (table_at start directory (le4 directory 36) (2 * le4 directory 24)))
