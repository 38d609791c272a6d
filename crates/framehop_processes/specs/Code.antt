-- The code of the files that processes map.
use Rattle.std.specs.Prelude.{ℕ, ◌-◌, nat_le, nat_lt, Bool, false, ◌&&◌, List, drop, length, Option, Some, None, option_map, option_and_then, if◌then◌else◌}
use Rattle.std.specs.List.{find}
use Rattle.std.specs.Option.{is_some}
use Rattle.framehop_processes.specs.declared.mapping.Mapping.{Mapping}
use Rattle.framehop_processes.specs.Place.{has_address}
use Rattle.framehop_memory.specs.declared.segment.Segment.{Segment}
use Rattle.framehop_processes.specs.ObjectFiles.{PartView, code_view, is_at_entry as is_at_entry_of}
use Rattle.framehop_processes.specs.declared.code.FilePart.{FilePart}
use Rattle.framehop_processes.specs.Files.{object_in}
use Rattle.framehop_processes.specs.declared.object_file.ObjectFile.{ObjectFile}
use Rattle.framehop_processes.specs.declared.files.Files.{Files}

-- where the bytes of a segment are in its file
abbrev pub segment_code : Segment → FilePart
segment_code segment = record {
  start = segment.address;
  offset = segment.offset;
  size = segment.file_size;
}

-- a part of a file has a stated address
abbrev pub has_svma : ℕ → PartView → Bool
has_svma svma part = nat_le part.start svma && nat_lt (svma - part.start) (length part.bytes)

-- the bytes of a file from a stated address on, as far as the first of its parts has them that has the address
abbrev pub bytes_from : List PartView → ℕ → Option (List ℕ)
bytes_from parts svma = option_map (λ part. drop (svma - part.start) part.bytes) (find (has_svma svma) parts)

-- the code from an address (AVMA) of a mapping on: one without sections is of no file that was read
abbrev pub code_of_object : ℕ → ObjectFile → Option (List ℕ)
code_of_object svma object = bytes_from (code_view object.code) svma

abbrev pub code_in_mapping : Files → ℕ → Mapping → Option (List ℕ)
code_in_mapping files address mapping =
    if mapping.has_sections then option_and_then (code_of_object (address - mapping.base_avma)) (object_in files mapping.file)
    else None

-- the same by the mapping that has the address
abbrev pub code_at : Files → List Mapping → ℕ → Option (List ℕ)
code_at files mappings address = option_and_then (code_in_mapping files address) (find (has_address address) mappings)

-- an address is in a mapping
abbrev pub is_mapped : List Mapping → ℕ → Bool
is_mapped mappings address = is_some (find (has_address address) mappings)

-- an address is in the code with which a process begins in a file
abbrev pub is_at_entry_in : ℕ → Option ObjectFile → Bool
is_at_entry_in svma (Some object) = is_at_entry_of object.entry svma
is_at_entry_in svma None = false

-- the same of an address (AVMA) of a mapping, and by the mapping that has the address
abbrev pub entry_in_mapping : Files → ℕ → Mapping → Bool
entry_in_mapping files address mapping =
    if mapping.has_sections then is_at_entry_in (address - mapping.base_avma) (object_in files mapping.file) else false

abbrev pub is_at_entry_by : Files → ℕ → Option Mapping → Bool
is_at_entry_by files address (Some mapping) = entry_in_mapping files address mapping
is_at_entry_by files address None = false

abbrev pub is_at_entry : Files → List Mapping → ℕ → Bool
is_at_entry files mappings address = is_at_entry_by files address (find (has_address address) mappings)
