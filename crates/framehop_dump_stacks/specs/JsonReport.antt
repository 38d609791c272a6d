-- A dump and the stacks of its threads as a line of JSON.
use Rattle.std.specs.Prelude.{◌≡◌, ℕ, List, [], ◌∷◌, ◌++◌, map, codes, Bool, true, false}
use Rattle.serde_json.specs.Data.{Data, string, array, object, Members, member, no_members}
use Rattle.serde_json.specs.View.{items_of}
use Rattle.serde_json.specs.Written.{comma_if, compact_text}
use Rattle.json.specs.Print.{quoted}
use Rattle.framehop_dump_files.specs.declared.coredump.core_file.Machine.{Machine}
use Rattle.framehop_dump_files.specs.declared.coredump.core_file.Machine.TheVariants.{X86_64, Aarch64}
use Rattle.framehop_processes.specs.declared.mapping.Mapping.{Mapping}
use Rattle.framehop_processes.specs.declared.files.Files.{Files}
use Rattle.framehop_frames.specs.JsonValues.{number_data, name_data, or_null}
use Rattle.framehop_frames.specs.declared.json_files.FilePaths.{FilePaths}
use Rattle.framehop_dumps.specs.Dump.{DumpView, kind_name}
use Rattle.framehop_dump_stacks.specs.JsonCrash.{crash_data}
use Rattle.framehop_dump_stacks.specs.JsonModules.{modules_data}
use Rattle.framehop_dump_stacks.specs.JsonThreads.{thread_data}
use Rattle.framehop_dump_stacks.specs.Walked.{WalkedThread}

-- the machine on which a process ran
abbrev pub machine_name : Machine → List ℕ
machine_name X86_64 = codes "x86_64"
machine_name Aarch64 = codes "aarch64"

-- what is said of a process besides its threads, and then of those, by the paths at which its files were read
abbrev pub dump_members : List FilePaths → DumpView → Files → List Mapping → Members → Members
dump_members paths dump files mappings threads =
    member (codes "crash") (crash_data dump.threads) (
    member (codes "kind") (string (kind_name dump.kind)) (
    member (codes "machine") (string (machine_name dump.machine)) (
    member (codes "modules") (array (items_of (modules_data paths files mappings))) (
    member (codes "pid") (or_null number_data dump.pid) (
    member (codes "program") (or_null name_data dump.name) threads)))))

-- all threads with their stacks, in their order
abbrev pub threads_data : Files → List Mapping → List WalkedThread → List Data
threads_data files mappings threads = map (λ walked. thread_data files mappings walked.thread walked.stack) threads

-- what is known of a process
abbrev pub dump_data : List FilePaths → DumpView → Files → List Mapping → List WalkedThread → Data
dump_data paths dump files mappings threads =
    object (dump_members paths dump files mappings (member (codes "threads") (array (items_of (threads_data files mappings threads))) no_members))

-- the line that is printed
abbrev pub dump_text : List FilePaths → DumpView → Files → List Mapping → List WalkedThread → List ℕ
dump_text paths dump files mappings threads = compact_text (dump_data paths dump files mappings threads) ++ codes "\n"

-- the same by some paths, as a source may give them: `gives`
abbrev pub IsDumpText : (List FilePaths → Type 0) → DumpView → Files → List Mapping → List WalkedThread → List ℕ → Type 0
IsDumpText gives dump files mappings threads text =
    (paths : List FilePaths) × gives paths × (text ≡ dump_text paths dump files mappings threads)

-- ---- its parts

-- members without the closing brace
abbrev pub members_front : Bool → Members → List ℕ
members_front later no_members = []
members_front later (member name value others) =
    comma_if later ++ (quoted name ++ 58 ∷ (compact_text value ++ members_front true others))

-- what comes before the threads
abbrev pub head_text : List FilePaths → DumpView → Files → List Mapping → List ℕ
head_text paths dump files mappings =
    123 ∷ members_front false (dump_members paths dump files mappings no_members) ++ codes ",\"threads\":["

abbrev pub IsHeadText : (List FilePaths → Type 0) → DumpView → Files → List Mapping → List ℕ → Type 0
IsHeadText gives dump files mappings text =
    (paths : List FilePaths) × gives paths × (text ≡ head_text paths dump files mappings)

-- a thread, after a comma if it is a later one
abbrev pub thread_text : Files → List Mapping → Bool → WalkedThread → List ℕ
thread_text files mappings later walked =
    comma_if later ++ compact_text (thread_data files mappings walked.thread walked.stack)

-- what comes after the threads
abbrev pub end_text : List ℕ
end_text = codes "]}\n"
