-- Files that processes map, with what was found in them, as JSON.
use Rattle.std.specs.Prelude.{ℕ, List, [], ◌∷◌, codes, Bool, false, Option, Some, None, option_map, option_and_then, is_some, slice_get}
use Rattle.hex.specs.Hex.{encode_lower}
use Rattle.serde_json.specs.Data.{Data, null, boolean, string, object, member, no_members}
use Rattle.framehop_frames.specs.JsonValues.{name_data, or_null, values_from}
use Rattle.framehop_frames.specs.declared.json_files.FilePaths.{FilePaths}
use Rattle.framehop.specs.Parts.{is_unwind_data}
use Rattle.framehop_processes.specs.Found.{has_names}
use Rattle.framehop_processes.specs.declared.files.NamedFile.{NamedFile}
use Rattle.framehop_processes.specs.declared.object_file.ObjectFile.{ObjectFile}

-- a build id in hexadecimal; null where the file has none
abbrev pub build_id_text : List ℕ → Data
build_id_text [] = null
build_id_text (byte ∷ others) = string (encode_lower (byte ∷ others))

-- the build id of a file that was read
abbrev pub build_id_data : ObjectFile → Data
build_id_data file = build_id_text file.build_id.items

-- the file was read, and has unwind data
abbrev pub has_unwind_data : Option ObjectFile → Bool
has_unwind_data (Some file) = is_unwind_data file.«module».unwind_data
has_unwind_data None = false

-- it was read, and has names of functions
abbrev pub has_function_names : Option ObjectFile → Bool
has_function_names (Some file) = has_names file.symbols.items
has_function_names None = false

-- the path at which the file of a number was read, and that of its debug file
abbrev pub path_in : List FilePaths → ℕ → Option (List ℕ)
path_in paths number = option_and_then (λ one. option_map (λ path. path.items) one.file) (slice_get paths number)

abbrev pub debug_path_in : List FilePaths → ℕ → Option (List ℕ)
debug_path_in paths number = option_and_then (λ one. option_map (λ path. path.items) one.debug_file) (slice_get paths number)

-- A file, by the paths at which it and its debug file were read.
abbrev pub file_data : Option (List ℕ) → Option (List ℕ) → NamedFile → Data
file_data path debug_path file = object (
    member (codes "build_id") (or_null build_id_data file.object) (
    member (codes "debug_path") (or_null name_data debug_path) (
    member (codes "file") (name_data file.name.items) (
    member (codes "file_read") (boolean (is_some file.object)) (
    member (codes "names") (boolean (has_function_names file.object)) (
    member (codes "path") (or_null name_data path) (
    member (codes "unwind_data") (boolean (has_unwind_data file.object)) no_members)))))))

-- files in the order of their numbers
abbrev pub files_data : List FilePaths → List NamedFile → List Data
files_data paths files = values_from (λ n file. file_data (path_in paths n) (debug_path_in paths n) file) 0 files
