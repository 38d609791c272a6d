-- The files that processes map, and the modules of mappings.
use Rattle.std.specs.Prelude.{◌≡◌, ◌≢◌, ◌⊎◌, ℕ, nat_eq, IsSome, is_some, List, [], ◌∷◌, ◌++◌, length, take, drop, ◌-◌, ◌==◌, if◌then◌else◌, codes, Option, Some, None, option_and_then, slice_get, slice_set, Result, Ok, Err, Vec, Bool, true, false, not, ◌&&◌, ◌||◌}
use Rattle.std.specs.BTreeMap.{get, get_by}
use Rattle.std.specs.Cmp.Lexicographic.{pointwise, slice_cmp}
use Rattle.std.specs.List.{starts_with}
use Rattle.std.specs.Ordering.{nat_cmp}
use Rattle.std.specs.declared.alloc.Global.{Global}
use Rattle.framehop.specs.Modules.{ModuleView}
use Rattle.framehop_processes.specs.declared.mapping.Mapping.{Mapping}
use Rattle.framehop_processes.specs.ObjectFiles.{Listed, problem_of, debug_tables_of, bare_module, IsKeptOf}
use Rattle.framehop_processes.specs.Source.{SourceView}
use Rattle.framehop_processes.specs.declared.code_map.CodeMap.{CodeMap}
use Rattle.framehop_processes.specs.declared.object_file.ObjectFile.{ObjectFile}
use Rattle.framehop_processes.specs.declared.object_file.FileProblem.{FileProblem}
use Rattle.framehop_processes.specs.declared.object_file.FileProblem.TheVariants.{NotRead}
use Rattle.framehop_processes.specs.declared.read_refusal.ReadRefusal.{ReadRefusal}
use Rattle.framehop_processes.specs.declared.read_refusal.ReadRefusal.TheVariants.{Deleted}
use Rattle.framehop_processes.specs.declared.files.Files.{Files}
use Rattle.framehop_processes.specs.declared.files.NamedFile.{NamedFile}

-- the number of a file by its name
abbrev pub number_in : Files → List ℕ → Option ℕ
number_in files name = get_by (λ key. slice_cmp nat_cmp name key.items) files.numbers

-- the number of the map of a process's code that is in no file
abbrev pub map_number_in : Files → ℕ → Option ℕ
map_number_in files pid = get nat_cmp files.maps pid

-- what was read of the file of a number
abbrev pub object_in : Files → ℕ → Option ObjectFile
object_in files number = option_and_then (λ file. file.object) (slice_get files.list.items number)

-- the file of a name
abbrev pub file_called : Files → List ℕ → Option NamedFile
file_called files name = option_and_then (slice_get files.list.items) (number_in files name)

-- it was left out: nothing of it was read so far
abbrev pub is_left_out_file : Option NamedFile → Bool
is_left_out_file (Some file) = is_some file.left_out
is_left_out_file None = false

abbrev pub is_left_out : Files → List ℕ → Bool
is_left_out files name = is_left_out_file (file_called files name)

-- a module at the addresses of a mapping
abbrev pub placed_at : ModuleView → Mapping → ModuleView
placed_at loaded mapping =
    record loaded { start = mapping.start; end = mapping.end; base_avma = mapping.base_avma }

-- that of a file; one without unwind data where nothing was read of it
abbrev pub loaded_of : ModuleView → Option ObjectFile → ModuleView
loaded_of bare (Some object) = object.«module»
loaded_of bare None = bare

-- the same by whether the mapping has the file's sections
abbrev pub loaded_with : Bool → Files → Mapping → ModuleView
loaded_with true files mapping = loaded_of files.bare (object_in files mapping.file)
loaded_with false files mapping = files.bare

-- the module of a mapping: one without sections has no unwind data
abbrev pub module_at : Files → Mapping → ModuleView
module_at files mapping = placed_at (loaded_with mapping.has_sections files mapping) mapping

-- a path of Unix: perf calls memory that is no file `[vdso]`, `//anon` and the like
abbrev pub is_unix_path : List ℕ → Bool
is_unix_path name = starts_with nat_eq name (codes "/") && not (starts_with nat_eq name (codes "//"))

-- a path of Windows: after its drive, or from a root on
abbrev pub has_drive : List ℕ → Bool
has_drive [] = false
has_drive (drive ∷ rest) = starts_with nat_eq rest (codes ":\\")

-- such a path
abbrev pub is_windows_path : List ℕ → Bool
is_windows_path name = has_drive name || starts_with nat_eq name (codes "\\")

-- a path of either
unfoldable pub is_path : List ℕ → Bool
is_path name = is_unix_path name || is_windows_path name

-- the vdso, which the kernel maps and no path names
abbrev pub is_vdso : List ℕ → Bool
is_vdso name = pointwise nat_eq name (codes "[vdso]")

-- Linux marks the path of a file that was deleted (`d_path`)
abbrev pub DELETED : List ℕ
DELETED = codes " (deleted)"

abbrev pub is_deleted : List ℕ → Bool
is_deleted name = pointwise nat_eq (drop (length name - length DELETED) name) DELETED

-- a path without that mark
abbrev pub path_of : List ℕ → List ℕ
path_of name = if is_deleted name then take (length name - length DELETED) name else name

-- a file that was deleted is asked for only by a build id, which tells it from a later one of its path
abbrev pub is_asked : List ℕ → List ℕ → Bool
is_asked name wanted = not (is_deleted name) || not (length wanted == 0)

-- the names of what a source is asked for
abbrev pub is_read : List ℕ → Bool
is_read name = is_path name || is_vdso name

-- what is told of a problem: nothing of a vdso (`false`) that is not there
abbrev pub told_of : Bool → FileProblem → Option FileProblem
told_of true problem = Some problem
told_of false (NotRead why) = None
told_of false problem = Some problem

-- why nothing is kept of a file that is given or not
abbrev pub IsProblem : Result (List ℕ) ReadRefusal → List ℕ → FileProblem → Type 0
IsProblem (Err why) wanted problem = problem ≡ NotRead why
IsProblem (Ok bytes) wanted problem = problem_of bytes wanted ≡ Some problem

-- nothing can be kept of a copy that is given or not
abbrev pub IsUnusable : Option (List ℕ) → List ℕ → Type 0
IsUnusable None wanted = Unit {0}
IsUnusable (Some bytes) wanted = (problem : FileProblem) × (problem_of bytes wanted ≡ Some problem)

-- the bytes of a file that is given, or why it is not
abbrev pub given_bytes : Result (Vec ℕ Global) ReadRefusal → Result (List ℕ) ReadRefusal
given_bytes (Ok bytes) = Ok bytes.items
given_bytes (Err why) = Err why

-- the symbol tables of a debug file that is given or not
abbrev pub debug_tables_in : List ℕ → Option (List ℕ) → List Listed
debug_tables_in build_id None = []
debug_tables_in build_id (Some bytes) = debug_tables_of build_id bytes

-- there are no files, and the module without sections has no unwind data
pub record IsWithoutFiles (files : Files) : Type 0 where
  pub list : files.list.items ≡ []
  pub numbers : (name : List ℕ) → number_in files name ≡ None
  pub maps : (pid : ℕ) → map_number_in files pid ≡ None
  pub bare : files.bare ≡ bare_module

-- a file of a name is a map of code that is in no file
pub record IsMapOf (name : List ℕ) (code_map : CodeMap) (file : NamedFile) : Type 0 where
  pub called : file.name.items ≡ name
  pub told : file.code_map ≡ Some code_map
  pub no_object : file.object ≡ None
  pub no_problem : file.problem ≡ None

-- such a map is the next of all files, that of its process
pub record IsNextMap (pid : ℕ) (name : List ℕ) (code_map : CodeMap) (old new : Files) : Type 0 where
  pub file : (file : NamedFile) × (new.list.items ≡ old.list.items ++ file ∷ []) × IsMapOf name code_map file
  pub number : map_number_in new pid ≡ Some (length old.list.items)
  pub others : (other : ℕ) → other ≢ pid → map_number_in new other ≡ map_number_in old other
  pub numbers : new.numbers ≡ old.numbers

-- it is added, unless its process has one
abbrev pub IsMapAdded : ℕ → List ℕ → CodeMap → Files → Files → Type 0
IsMapAdded pid name code_map old new =
    (IsSome (map_number_in old pid) × (new ≡ old)) ⊎ ((map_number_in old pid ≡ None) × IsNextMap pid name code_map old new)

-- a file is the next of all, under its name
pub record IsNextFile (file : NamedFile) (old new : Files) : Type 0 where
  pub list : new.list.items ≡ old.list.items ++ file ∷ []
  pub number : number_in new file.name.items ≡ Some (length old.list.items)
  pub others : (other : List ℕ) → other ≢ file.name.items → number_in new other ≡ number_in old other
  pub maps : new.maps ≡ old.maps

-- nothing was read of a file of a name: it is left out, if a source is asked for it
pub record IsLeftOut (name : List ℕ) (file : NamedFile) : Type 0 where
  pub called : file.name.items ≡ name
  pub left_out : is_some file.left_out ≡ is_read name
  pub no_object : file.object ≡ None
  pub no_problem : file.problem ≡ None
  pub no_map : file.code_map ≡ None

-- such a file is the next of all
abbrev pub IsNextLeftOut : List ℕ → Files → Files → Type 0
IsNextLeftOut name old new = (file : NamedFile) × IsLeftOut name file × IsNextFile file old new

-- it is added, unless one has its name
abbrev pub IsAddedLeftOut : List ℕ → Files → Files → Type 0
IsAddedLeftOut name old new =
    (IsSome (number_in old name) × (new ≡ old)) ⊎ ((number_in old name ≡ None) × IsNextLeftOut name old new)

module _ (source : SourceView) where
  -- the symbol tables of the debug file of a file of this path and link, by its build id: none without one
  abbrev pub AreDebugTables : List ℕ → List ℕ → List ℕ → List Listed → Type 0
  AreDebugTables path link [] tables = tables ≡ []
  AreDebugTables path link (byte ∷ bytes) tables =
      (given : Option (List ℕ)) × source.gives_debug path (byte ∷ bytes) link given
      × (tables ≡ debug_tables_in (byte ∷ bytes) given)

  -- what is given for a name and the build id that is wanted, if the source is asked
  abbrev pub IsGivenIf : Bool → List ℕ → List ℕ → Result (List ℕ) ReadRefusal → Type 0
  IsGivenIf true name wanted given = source.gives (path_of name) wanted given
  IsGivenIf false name wanted given = given ≡ Err Deleted

  abbrev pub IsGiven : List ℕ → List ℕ → Result (List ℕ) ReadRefusal → Type 0
  IsGiven name wanted given = IsGivenIf (is_asked name wanted) name wanted given

  -- the bytes of a file by its name, and by the build id that is wanted of it, if one is
  abbrev pub IsNamed : List ℕ → List ℕ → List ℕ → Type 0
  IsNamed name wanted bytes = IsGiven name wanted (Ok bytes) × (problem_of bytes wanted ≡ None)

  abbrev pub IsCopied : List ℕ → List ℕ → Type 0
  IsCopied wanted bytes = (wanted ≢ []) × source.gives_copied wanted (Some bytes) × (problem_of bytes wanted ≡ None)

  -- why none is kept by its name
  abbrev pub IsRefused : List ℕ → List ℕ → FileProblem → Type 0
  IsRefused name wanted problem = (given : Result (List ℕ) ReadRefusal) × IsGiven name wanted given × IsProblem given wanted problem

  -- and none by its build id
  abbrev pub IsNotCopied : List ℕ → Type 0
  IsNotCopied wanted =
      (wanted ≡ []) ⊎ ((given : Option (List ℕ)) × source.gives_copied wanted given × IsUnusable given wanted)

  -- a file that is kept, with its debug names, by what is given of both: the one of its name, or else the one of the build
  -- id
  abbrev pub IsKept : List ℕ → List ℕ → ObjectFile → Type 0
  IsKept name wanted object =
      (bytes : List ℕ) × (IsNamed name wanted bytes ⊎ (((problem : FileProblem) × IsRefused name wanted problem) × IsCopied wanted bytes))
      × ((debug : List Listed) × AreDebugTables (path_of name) object.debug_link.items object.build_id.items debug
      × IsKeptOf bytes debug object)

  -- or else why nothing is: a vdso that is not given is no problem
  abbrev pub IsLoaded : List ℕ → List ℕ → Option ObjectFile → Option FileProblem → Type 0
  IsLoaded name wanted (Some object) None = IsKept name wanted object
  IsLoaded name wanted None problem =
      (refusal : FileProblem) × IsRefused name wanted refusal × IsNotCopied wanted × (problem ≡ told_of (is_path name) refusal)
  IsLoaded name wanted (Some object) (Some problem) = ⊥

  -- only a path is read, and the vdso
  abbrev pub IsLoadedIf : Bool → List ℕ → List ℕ → Option ObjectFile → Option FileProblem → Type 0
  IsLoadedIf true name wanted object problem = IsLoaded name wanted object problem
  IsLoadedIf false name wanted object problem = (object ≡ None) × (problem ≡ None)

  -- a file of a name, of which a build id is wanted, is what the source gives
  pub record IsFileOf (name wanted : List ℕ) (file : NamedFile) : Type 0 where
    pub called : file.name.items ≡ name
    pub loaded : IsLoadedIf (is_read name) name wanted file.object file.problem
    pub no_map : file.code_map ≡ None
    pub not_left_out : file.left_out ≡ None

  -- such a file is the next of all
  abbrev pub IsNext : List ℕ → List ℕ → Files → Files → Type 0
  IsNext name wanted old new = (file : NamedFile) × IsFileOf name wanted file × IsNextFile file old new

  -- such a file is in the place of the one of its name, and all others are as they were
  pub record IsRead (name wanted : List ℕ) (old new : Files) : Type 0 where
    pub number : ℕ
    pub numbered : number_in old name ≡ Some number
    pub file : (file : NamedFile) × (new.list.items ≡ slice_set old.list.items number file) × IsFileOf name wanted file
    pub numbers : new.numbers ≡ old.numbers
    pub maps : new.maps ≡ old.maps

  -- a file is added, unless one has its name
  abbrev pub IsAdded : List ℕ → List ℕ → Files → Files → Type 0
  IsAdded name wanted old new =
      (IsSome (number_in old name) × (new ≡ old)) ⊎ ((number_in old name ≡ None) × IsNext name wanted old new)
