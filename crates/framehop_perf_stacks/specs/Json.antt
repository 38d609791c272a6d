-- Samples and their stacks as JSON: an object for each, by how often it was counted.
use Rattle.std.specs.Prelude.{ℕ, List, [], ◌∷◌, ◌++◌, codes, decimal, Bool, true, false, Option, Some, None}
use Rattle.std.specs.Global.{Global}
use Rattle.std.specs.declared.vec.Vec.{Vec}
use Rattle.serde_json.specs.Data.{Data, string, array, object, Members, member, no_members}
use Rattle.serde_json.specs.View.{items_of}
use Rattle.serde_json.specs.Written.{compact_text, members_text}
use Rattle.framehop_frames.specs.JsonFiles.{files_data}
use Rattle.framehop_frames.specs.JsonValues.{number_data, address_data, name_data, or_null}
use Rattle.framehop_frames.specs.declared.json_files.FilePaths.{FilePaths}
use Rattle.framehop_processes.specs.declared.files.NamedFile.{NamedFile}

-- the machine of a recording: aarch64 (`true`) or x86_64
abbrev pub machine_name : Bool → List ℕ
machine_name true = codes "aarch64"
machine_name false = codes "x86_64"

-- what is said of a recording before its stacks: the files that its processes map, by the paths at which they were read
abbrev pub head_data : Bool → List FilePaths → List NamedFile → Data
head_data aarch64 paths files = object (
    member (codes "kind") (string (codes "recording")) (
    member (codes "machine") (string (machine_name aarch64)) (
    member (codes "modules") (array (items_of (files_data paths files))) no_members)))

abbrev pub head_line : Bool → List FilePaths → List NamedFile → List ℕ
head_line aarch64 paths files = compact_text (head_data aarch64 paths files) ++ codes "\n"

-- what is told or not
abbrev pub told_if : {A : Type 0} → Bool → A → Option A
told_if true x = Some x
told_if false x = None

abbrev pub time_if : Bool → Option ℕ → Option ℕ
time_if true time = time
time_if false time = None

-- a thread: its name, its process and itself, and the time of a sample in nanoseconds, where these are told
abbrev pub thread_members : List ℕ → Option ℕ → Option ℕ → Option ℕ → Members
thread_members name pid tid time =
    member (codes "name") (name_data name) (
    member (codes "pid") (or_null number_data pid) (
    member (codes "tid") (or_null number_data tid) (
    member (codes "time") (or_null number_data time) no_members)))

-- how a stack ended, the address in no code at which it did, if it ended at one, its frames, and then its thread
abbrev pub stack_members : List ℕ → Option ℕ → Data → Members → Members
stack_members end end_address frames who =
    member (codes "end") (string end) (
    member (codes "end_address") (or_null address_data end_address) (
    member (codes "frames") frames who))

-- the line of a stack that was counted so often
abbrev pub stack_line : ℕ → Members → List ℕ
stack_line count members = compact_text (object (member (codes "count") (number_data count) members)) ++ codes "\n"

-- ---- its parts: a stack is counted by the text of its members, which comes after the count

-- members after another, with the closing brace
abbrev pub rest_text : Members → List ℕ
rest_text members = members_text true members

abbrev pub counted_line : ℕ → List ℕ → List ℕ
counted_line count rest = codes "{\"count\":" ++ decimal count ++ rest ++ codes "\n"

-- the lines of stacks, one after another
abbrev pub counted_lines : List (Vec ℕ Global × ℕ) → List ℕ
counted_lines [] = []
counted_lines (entry ∷ entries) = counted_line entry.1 entry.0.items ++ counted_lines entries
