-- Which files of a disk are read, and which of them is the one that is wanted.
use denote.Ref.{Bor}
use Rattle.std.specs.Prelude.{ℕ, ◌≡◌, ◌==◌, Bool, true, false, not, ◌&&◌, ◌||◌, nat_eq, nat_lt, List, codes, Option, Some, None, Result, Ok, Err, if◌then◌else◌}
use Rattle.std.specs.Cmp.Lexicographic.{pointwise}
use Rattle.std.specs.Str.{IsUtf8}
use Rattle.std.specs.declared.io.ErrorKind.{ErrorKind}
use Rattle.std.specs.declared.io.ErrorKind.TheVariants as kind
use Rattle.framehop_processes.specs.ObjectFiles.{build_id_by, contents_of}
use Rattle.framehop_processes.specs.MadeUpId.{is_made_up}
use Rattle.framehop_processes.specs.declared.read_refusal.ReadRefusal.{ReadRefusal}
use Rattle.framehop_processes.specs.declared.read_refusal.ReadRefusal.TheVariants.{NotThere, NotRegular, Refused}
use Rattle.framehop_disk.specs.Paths.{file_name, folder, is_below, is_empty, is_file_name}
use Rattle.framehop_disk.specs.declared.disk.ReadFile.{ReadFile}
use Rattle.framehop_disk.specs.declared.disk.Worth.{Worth}
use Rattle.framehop_disk.specs.declared.disk.Worth.TheVariants as worth

abbrev pub is_same : List ℕ → List ℕ → Bool
is_same a b = pointwise nat_eq a b

-- ---- which files may be read

-- a file is in a folder of files that the kernel makes up (Linux, Documentation/filesystems/proc.rst, sysfs.rst; devices)
abbrev pub is_of_kernel : List ℕ → Bool
is_of_kernel path = is_below path (codes "/proc") || is_below path (codes "/sys") || is_below path (codes "/dev")

-- a root that leads to all files
abbrev pub is_whole : List ℕ → Bool
is_whole root = is_empty root || is_same root (codes "/")

-- The file of a path without links may be read below a root: below the root's path without links, where that is known. A root that
-- leads to all files leads to none that the kernel makes up.
abbrev pub is_below_known : Option (List ℕ) → List ℕ → Bool
is_below_known None path = false
is_below_known (Some real) path = is_below path real

abbrev pub is_readable : List ℕ → Option (List ℕ) → List ℕ → Bool
is_readable root real path = if is_whole root then not (is_of_kernel path) else is_below_known real path

-- a link to a debug file names one beside the file that has the link: the folder of that, and the name
abbrev pub IsLinked : List ℕ → List ℕ → Bor (List ℕ) × Bor (List ℕ) → Type 0
IsLinked name link found =
    (found.0.now ≡ folder name) × (found.1.now ≡ link) × (is_file_name link ≡ true) × IsUtf8 name × IsUtf8 link

-- why a file is not read, by what a system tells of it: it is no regular file, has no bytes, or more than 4 GiB
abbrev pub regular_refusal : Bool → ℕ → Option ReadRefusal
regular_refusal is_file size =
    if not is_file || size == 0 then Some NotRegular else if nat_lt 0x100000000 size then Some Refused else None

-- why a map of a JIT compiler is not read: it has more than 256 MiB, or is neither root's nor the user's
abbrev pub is_number : ℕ → Option ℕ → Bool
is_number number None = false
is_number number (Some other) = other == number

abbrev pub map_refusal : Bool → ℕ → ℕ → Option ℕ → Option (List ℕ)
map_refusal is_file size owner user =
    if not is_file || nat_lt 0x10000000 size then Some (codes "no regular file of at most 256 MiB")
    else if owner == 0 || is_number owner user then None
    else Some (codes "not read, since it belongs to another user")

-- ---- why a system gives no file

-- none where memory ran out
abbrev pub refusal_by : ErrorKind → Option ReadRefusal
refusal_by kind.OutOfMemory = None
refusal_by kind.NotFound = Some NotThere
refusal_by kind.NotADirectory = Some NotThere
refusal_by _ = Some Refused

-- ---- which file is the wanted one

abbrev pub build_id_in : List ℕ → List ℕ
build_id_in file = build_id_by (contents_of file)

-- A file has the wanted build id, if one is wanted. One without a build id may have one that is made up of its bytes.
abbrev pub is_wanted : List ℕ → List ℕ → Bool
is_wanted build_id file =
    is_empty build_id || is_same (build_id_in file) build_id || (is_empty (build_id_in file) && is_made_up build_id file)

-- the main program, by its path and its bytes, is the file of a name: by the build id or, where none is wanted, by the name
abbrev pub is_program : List ℕ → List ℕ → List ℕ → List ℕ → Bool
is_program path file name build_id =
    if is_empty build_id then is_same (file_name name) (file_name path) else is_same (build_id_in file) build_id

-- What was read in a root is worth more than nothing where it is refused, more where it is a file, and most where that is wanted.
abbrev pub worth_of : Result ReadFile ReadRefusal → Bool → Worth
worth_of (Ok read) true = worth.Wanted
worth_of (Ok read) false = worth.Other
worth_of (Err NotThere) wanted = worth.Nothing
worth_of (Err _) wanted = worth.Refused

-- by the build id that is wanted
abbrev pub is_read_and_wanted : List ℕ → Result ReadFile ReadRefusal → Bool
is_read_and_wanted build_id (Ok file) = is_wanted build_id file.bytes.items
is_read_and_wanted build_id (Err _) = false

abbrev pub worth_by : List ℕ → Result ReadFile ReadRefusal → Worth
worth_by build_id read = worth_of read (is_read_and_wanted build_id read)

abbrev pub rank : Worth → ℕ
rank worth.Nothing = 0
rank worth.Refused = 1
rank worth.Other = 2
rank worth.Wanted = 3
