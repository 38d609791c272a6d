-- Which file a module is of: MDCVInfoPDB70 and MDCVInfoELF of Breakpad's minidump_format.h.
use Rattle.std.specs.Prelude.{ℕ, List, length, take, drop, Option, Some, None, Result, Ok, Err, nat_lt, ◌==◌, if◌then◌else◌}
use Rattle.framehop_bytes.specs.Bytes.{◌>>=◌, le4}
use Rattle.framehop_bytes.specs.String.{string_of}
use Rattle.framehop_dump_files.specs.Minidump.Numbers.{RSDS, MD_CVINFOELF_SIGNATURE}
use Rattle.framehop_dump_files.specs.Minidump.Location.{located}
use Rattle.framehop_dump_files.specs.declared.minidump.codeview.CodeView.{CodeView}
use Rattle.framehop_dump_files.specs.declared.minidump.codeview.CodeView.TheVariants.{Pdb, Elf}
use Rattle.framehop_dump_files.specs.declared.minidump.error.MinidumpError.{MinidumpError}
use Rattle.framehop_dump_files.specs.declared.minidump.error.MinidumpError.TheVariants.{ShortCodeView}
use Rattle.framehop_dump_files.specs.declared.minidump.location.Location.{Location}

-- a record by its values: the GUID, the age and the path of a program database, and both of the first together; or a
-- build id
pub data CodeViewView : Type 0 where
  of_pdb : List ℕ → ℕ → List ℕ → List ℕ → CodeViewView
  of_elf : List ℕ → CodeViewView

abbrev pub codeview_view : CodeView → CodeViewView
codeview_view (Pdb guid age path guid_and_age) = of_pdb guid.now age path.now guid_and_age.now
codeview_view (Elf build_id) = of_elf build_id.now

-- "RSDS", Signature, Age and PdbFileName, which ends with a 0
abbrev pub pdb_in : ℕ → List ℕ → Result (Option CodeViewView) MinidumpError
pdb_in offset bytes =
    if nat_lt (length bytes) 24 then Err (ShortCodeView offset)
    else Ok (Some (of_pdb (take 16 (drop 4 bytes)) (le4 bytes 20) (string_of bytes 24) (take 20 (drop 4 bytes))))

-- "LEpB" and the build id; other records are passed over
unfoldable pub codeview_in : ℕ → List ℕ → Result (Option CodeViewView) MinidumpError
codeview_in offset bytes =
    if nat_lt (length bytes) 4 then Err (ShortCodeView offset)
    else if le4 bytes 0 == RSDS then pdb_in offset bytes
    else if le4 bytes 0 == MD_CVINFOELF_SIGNATURE then Ok (Some (of_elf (drop 4 bytes)))
    else Ok None

-- the record at a location, or none where that has no bytes
unfoldable pub codeview_of : List ℕ → Location → Result (Option CodeViewView) MinidumpError
codeview_of file location = if location.size == 0 then Ok None else (do
  bytes ← located file location
  codeview_in location.offset bytes)
