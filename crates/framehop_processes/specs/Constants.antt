-- The data of the files that processes map, as far as no process changes it.
use Rattle.std.specs.Prelude.{ℕ, ◌-◌, ◌==◌, nat_le, List, length, Option, Some, None, option_and_then, slice_get, if◌then◌else◌}
use Rattle.std.specs.List.{fold}
use Rattle.framehop_bytes.specs.Bytes.{le8}
use Rattle.framehop_processes.specs.declared.mapping.Mapping.{Mapping}
use Rattle.framehop_processes.specs.declared.object_file.ObjectFile.{ObjectFile}
use Rattle.framehop_processes.specs.declared.files.Files.{Files}
use Rattle.framehop_processes.specs.Code.{bytes_from}
use Rattle.framehop_processes.specs.Files.{object_in}
use Rattle.framehop_processes.specs.ObjectFiles.{constants_view}

-- the little-endian word at the front of bytes, if there are eight
abbrev pub first_word : List ℕ → Option ℕ
first_word bytes = if nat_le 8 (length bytes) then Some (le8 bytes 0) else None

-- the word at a stated address, by the file's constant data
abbrev pub constant_in : ℕ → ObjectFile → Option ℕ
constant_in svma object =
    option_and_then first_word (bytes_from (constants_view object) svma)

-- the same at an address (AVMA) by a mapping: one without sections is of no file that was read
abbrev pub constant_in_mapping : Files → ℕ → Mapping → Option ℕ
constant_in_mapping files address mapping =
    if mapping.has_sections then option_and_then (constant_in (address - mapping.base_avma)) (object_in files mapping.file)
    else None

-- the last mapping that starts at or below an address
abbrev pub later_by : ℕ → Option Mapping → Mapping → Option Mapping
later_by address found mapping = if nat_le mapping.start address then Some mapping else found

abbrev pub last_by : ℕ → List Mapping → Option Mapping
last_by address mappings = fold (later_by address) None mappings

-- the mapping before a place
abbrev pub mapping_before : List Mapping → ℕ → Option Mapping
mapping_before mappings place = if place == 0 then None else slice_get mappings (place - 1)

-- the word at an address, by the file of the last mapping that starts at or below it
unfoldable pub constant_at : Files → List Mapping → ℕ → Option ℕ
constant_at files mappings address = option_and_then (constant_in_mapping files address) (last_by address mappings)
