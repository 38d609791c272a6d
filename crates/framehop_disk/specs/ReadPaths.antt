-- Where files of a disk were read.
use Rattle.std.specs.Prelude.{ℕ, ◌&&◌, Bool, nat_eq, List, find, reverse, Option, Some, None, option_map}
use Rattle.std.specs.Global.{Global}
use Rattle.std.specs.Cmp.Lexicographic.{pointwise}
use Rattle.std.specs.declared.vec.Vec.{Vec}
use Rattle.framehop_disk.specs.declared.read_paths.ReadPath.{ReadPath}

abbrev pub is_named : List ℕ → ReadPath → Bool
is_named name read = pointwise nat_eq read.name.items name

-- a file was read by a name, where a build id was wanted
abbrev pub is_read_by : List ℕ → List ℕ → ReadPath → Bool
is_read_by name build_id read = is_named name read && pointwise nat_eq read.build_id.items build_id

abbrev pub or_else : Option ReadPath → Option ReadPath → Option ReadPath
or_else (Some read) other = Some read
or_else None other = other

-- the last that was read by a name and that build id, or else the last by that name
abbrev pub last_of : List ℕ → List ℕ → List ReadPath → Option ReadPath
last_of name build_id list =
    or_else (find (is_read_by name build_id) (reverse list)) (find (is_named name) (reverse list))

-- the bytes of a path, if there is one
abbrev pub path_bytes : Option (Vec ℕ Global) → Option (List ℕ)
path_bytes path = option_map (λ bytes. bytes.items) path

-- where it was read, and where its debug file
abbrev pub file_of : Option ReadPath → Option (List ℕ)
file_of None = None
file_of (Some read) = path_bytes read.file

abbrev pub debug_file_of : Option ReadPath → Option (List ℕ)
debug_file_of None = None
debug_file_of (Some read) = path_bytes read.debug_file
