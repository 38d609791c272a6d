-- The `.debug_frame` of the files that processes map.
use Rattle.std.specs.Prelude.{ℕ, ◌-◌, ◌^◌, nat_lt, List, Option, Some, None, option_and_then, if◌then◌else◌}
use Rattle.std.specs.List.{find}
use Rattle.framehop.specs.Modules.{ModuleView}
use Rattle.framehop_processes.specs.declared.mapping.Mapping.{Mapping}
use Rattle.framehop_processes.specs.Files.{object_in}
use Rattle.framehop_processes.specs.Place.{has_address}
use Rattle.framehop_processes.specs.declared.files.Files.{Files}
use Rattle.framehop_processes.specs.declared.object_file.ObjectFile.{ObjectFile}

-- that of a file, and a relative address, which has 32 bits
abbrev pub debug_frame_of_object : ℕ → ObjectFile → Option (ModuleView × ℕ)
debug_frame_of_object relative object = if nat_lt relative (2 ^ 32) then Some (object.debug_frame, relative) else None

-- the same at an address (AVMA) of a mapping: one without sections is of no file that was read
abbrev pub debug_frame_in_mapping : Files → ℕ → Mapping → Option (ModuleView × ℕ)
debug_frame_in_mapping files address mapping =
    if mapping.has_sections then option_and_then (debug_frame_of_object (address - mapping.base_avma)) (object_in files mapping.file)
    else None

-- the same by the mapping that has the address
abbrev pub debug_frame_at : Files → List Mapping → ℕ → Option (ModuleView × ℕ)
debug_frame_at files mappings address =
    option_and_then (debug_frame_in_mapping files address) (find (has_address address) mappings)
