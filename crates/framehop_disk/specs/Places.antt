-- In which places of a disk a file is looked for, in order.
use Rattle.std.specs.Prelude.{ℕ, List, [], ◌∷◌, ◌++◌, map, flat_map, codes, Option, Some, None, if◌then◌else◌}
use Rattle.framehop_processes.specs.Files.{is_windows_path}
use Rattle.framehop_disk.specs.Paths.{SLASH, after_drive, build_id_path, windows_name}

-- a place: the folder below which the file must lie, and its path
abbrev pub Place : Type 0
Place = List ℕ × List ℕ

-- where a path is in a root
abbrev pub in_root : List ℕ → List ℕ → Place
in_root path root = (root, root ++ path)

-- ---- mapped files

-- A file is looked for by its path; one of Windows by the path after its drive, and then by its name only.
abbrev pub mapped_places : List ℕ → List ℕ → List Place
mapped_places path root =
    if is_windows_path path then in_root (after_drive path) root ∷ in_root (SLASH ∷ windows_name path) root ∷ []
    else in_root path root ∷ []

-- ---- debug files (GDB, "Debugging Information in Separate Files")

-- the folder of debug files of the system
abbrev pub SYSTEM : List ℕ
SYSTEM = codes "/usr/lib/debug"

-- the folders of debug files: those that are named, and then that of the system
abbrev pub debug_folders : List (List ℕ) → List (List ℕ)
debug_folders named = named ++ SYSTEM ∷ []

-- by a build id
abbrev pub debug_paths : List (List ℕ) → List ℕ → List (List ℕ)
debug_paths named build_id = map (λ folder. build_id_path folder build_id ++ codes ".debug") (debug_folders named)

-- in the folder of the file that names it, and in the folder `.debug` there
abbrev pub beside : List ℕ → List ℕ → List ℕ → List Place
beside folder link root =
    in_root (folder ++ (codes "/" ++ link)) root ∷ in_root (folder ++ (codes "/.debug/" ++ link)) root ∷ []

-- By a link: beside the file in each root, and then in the same folder below each of the folders of debug files.
abbrev pub linked_places : List (List ℕ) → List (List ℕ) → List ℕ → List ℕ → List Place
linked_places roots named folder link =
    flat_map (beside folder link) roots ++ map (in_root (folder ++ (codes "/" ++ link))) (debug_folders named)

-- ---- copies that perf keeps (Linux, tools/perf/util/build-id.c)

-- the folder that is named, or else `.debug` in the home folder
abbrev pub cache_folder : Option (List ℕ) → Option (List ℕ) → Option (List ℕ)
cache_folder (Some named) home = Some named
cache_folder None (Some home) = Some (home ++ codes "/.debug")
cache_folder None None = None

-- A copy is the file `elf` or else `vdso` in the folder of its build id.
abbrev pub copies_in : Option (List ℕ) → List ℕ → List (List ℕ)
copies_in None build_id = []
copies_in (Some folder) build_id =
    (build_id_path folder build_id ++ codes "/elf") ∷ (build_id_path folder build_id ++ codes "/vdso") ∷ []
