-- Which program database belongs to a file ("PE Format", "Debug Directory (Image Only)"; MDCVInfoPDB70 of Breakpad's
-- minidump_format.h).
-- Which entry it is: "Debug Type".
use Rattle.std.specs.Prelude.{ℕ, List, [], ◌∷◌, length, take, drop, Option, Some, None, option_and_then, Result, Ok, nat_le, ◌&&◌, ◌==◌, if◌then◌else◌}
use Rattle.std.specs.Option.{option_or}
use Rattle.std.specs.Result.{result_ok}
use Rattle.framehop_bytes.specs.Bytes.{◌>>=◌, le4}
use Rattle.framehop_bytes.specs.String.{string_of}
use Rattle.framehop_object.specs.Pe.Numbers.{IMAGE_DEBUG_TYPE_CODEVIEW, RSDS, DEBUG_DIRECTORY_SIZE}
use Rattle.framehop_object.specs.Pe.Block.{block_at, entries_in}
use Rattle.framehop_object.specs.Pe.PeFile.{PeFile}
use Rattle.framehop_object.specs.Pe.Rva.{bytes_at}
use Rattle.framehop_object.specs.declared.pe.codeview.Rsds.{Rsds}
use Rattle.framehop_object.specs.declared.pe.error.PeError.{PeError}
use Rattle.framehop_object.specs.declared.pe.header.DataDirectory.{DataDirectory}

-- a record by its values
pub record RsdsView : Type 0 where
  pub guid : List ℕ
  pub age : ℕ
  pub path : List ℕ
  pub guid_and_age : List ℕ

abbrev pub rsds_view : Rsds → RsdsView
rsds_view rsds =
    record { guid = rsds.guid.now; age = rsds.age; path = rsds.path.now; guid_and_age = rsds.guid_and_age.now }

-- "RSDS", Signature (the GUID), Age and PdbFileName, which ends with a 0
abbrev pub rsds_in : List ℕ → Option RsdsView
rsds_in bytes =
    if nat_le 24 (length bytes) && (le4 bytes 0 == RSDS)
    then Some (record {
      guid = take 16 (drop 4 bytes);
      age = le4 bytes 20;
      path = string_of bytes 24;
      guid_and_age = take 20 (drop 4 bytes);
    })
    else None

-- that of an entry of the debug directory: its Type is at 12, SizeOfData at 16, and PointerToRawData at 24
abbrev pub rsds_of_entry : List ℕ → List ℕ → Option RsdsView
rsds_of_entry file entry =
    if le4 entry 12 == IMAGE_DEBUG_TYPE_CODEVIEW
    then option_and_then (λ bytes. rsds_in bytes) (result_ok (block_at file (le4 entry 24) (le4 entry 16))) else None

-- that of the first entry that has one
abbrev pub first_rsds : List ℕ → List (List ℕ) → Option RsdsView
first_rsds file [] = None
first_rsds file (entry ∷ entries) = option_or (rsds_of_entry file entry) (first_rsds file entries)

-- the debug directory, none where there is no such data directory
abbrev pub debug_bytes_in : PeFile → Option DataDirectory → Result (List ℕ) PeError
debug_bytes_in pe None = Ok []
debug_bytes_in pe (Some directory) =
    bytes_at pe directory.virtual_address directory.size

abbrev pub debug_bytes_of : PeFile → Result (List ℕ) PeError
debug_bytes_of pe = debug_bytes_in pe pe.header.debug_directory

-- the entries of the debug directory
unfoldable pub debug_entries_of : PeFile → Result (List (List ℕ)) PeError
debug_entries_of pe = do
  bytes ← debug_bytes_of pe
  Ok (entries_in DEBUG_DIRECTORY_SIZE bytes)

-- the record of a file
unfoldable pub rsds_of : PeFile → Result (Option RsdsView) PeError
rsds_of pe = do
  entries ← debug_entries_of pe
  Ok (first_rsds pe.bytes entries)
