-- The mappings of code of a process, with what was found in their files, as JSON.
use Rattle.std.specs.Prelude.{List, codes, Option, option_map, option_to_list, is_some, slice_get}
use Rattle.std.specs.List.{flat_map}
use Rattle.serde_json.specs.Data.{Data, boolean, object, member, no_members}
use Rattle.framehop_processes.specs.declared.mapping.Mapping.{Mapping}
use Rattle.framehop_processes.specs.declared.files.Files.{Files}
use Rattle.framehop_processes.specs.declared.files.NamedFile.{NamedFile}
use Rattle.framehop_frames.specs.JsonFiles.{build_id_data, has_unwind_data, has_function_names, path_in, debug_path_in}
use Rattle.framehop_frames.specs.JsonValues.{address_data, name_data, or_null}
use Rattle.framehop_frames.specs.declared.json_files.FilePaths.{FilePaths}

-- a mapping of a file, by the paths at which files and their debug files were read
abbrev pub module_data : List FilePaths → Mapping → NamedFile → Data
module_data paths mapping file = object (
    member (codes "build_id") (or_null build_id_data file.object) (
    member (codes "debug_path") (or_null name_data (debug_path_in paths mapping.file)) (
    member (codes "end") (address_data mapping.end) (
    member (codes "file") (name_data file.name.items) (
    member (codes "file_read") (boolean (is_some file.object)) (
    member (codes "names") (boolean (has_function_names file.object)) (
    member (codes "path") (or_null name_data (path_in paths mapping.file)) (
    member (codes "start") (address_data mapping.start) (
    member (codes "unwind_data") (boolean (has_unwind_data file.object)) no_members)))))))))

-- the mappings whose file is known, in the order of their addresses
abbrev pub module_of : List FilePaths → Files → Mapping → Option Data
module_of paths files mapping = option_map (module_data paths mapping) (slice_get files.list.items mapping.file)

abbrev pub modules_data : List FilePaths → Files → List Mapping → List Data
modules_data paths files mappings = flat_map (λ mapping. option_to_list (module_of paths files mapping)) mappings
