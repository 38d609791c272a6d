-- The JSON values of dumps have no number with a point: so their texts are known.
use Rattle.std.proofs.Common.{◌≡◌, ℕ, List, [], ◌∷◌, ◌++◌, false, Option, Some, None, refl, ap, ◌∙◌}
use Rattle.std.specs.Option.{option_to_list}
use Rattle.std.specs.Prelude.{slice_get, option_map}
use Rattle.std.proofs.lemmas.List.Concat.{flat_map-cons}
use Rattle.serde_json.specs.Data.{Data, object, no_members}
use Rattle.serde_json.specs.View.{items_of}
use Rattle.serde_json.specs.Written.{items_have_float}
use Rattle.framehop_processes.specs.declared.mapping.Mapping.{Mapping}
use Rattle.framehop_processes.specs.declared.files.Files.{Files}
use Rattle.framehop_processes.specs.declared.files.NamedFile.{NamedFile}
use Rattle.framehop_frames.proofs.FloatLemmas.{HasNone, neither, none-or-null, address-none, name-none, number-none, build-id-none, frames-none}
use Rattle.framehop_frames.specs.JsonFiles.{path_in, debug_path_in}
use Rattle.framehop_frames.specs.Stack.{StackView}
use Rattle.framehop_frames.specs.declared.json_files.FilePaths.{FilePaths}
use Rattle.framehop_dumps.specs.Dump.{ThreadView, DumpView}
use Rattle.framehop_dumps.specs.declared.dump.Cause.{Cause}
use Rattle.framehop_dump_stacks.specs.JsonCrash.{fault_address, cause_data, crash_data}
use Rattle.framehop_dump_stacks.specs.JsonModules.{module_data, module_of, modules_data}
use Rattle.framehop_dump_stacks.specs.JsonReport.{dump_members}
use Rattle.framehop_dump_stacks.specs.JsonThreads.{frames_of, end_address_of, thread_data}

-- what ended a process
cause-none : (tid : ℕ) (cause : Cause) → HasNone (cause_data tid cause)
cause-none tid cause = neither _ _ (address-none (fault_address cause)) refl

crash-none : (threads : List ThreadView) → HasNone (crash_data threads)
crash-none [] = refl
crash-none (thread ∷ others) = none-or-null (cause_data thread.tid) (cause-none thread.tid) thread.cause

-- modules
module-none : (paths : List FilePaths) (mapping : Mapping) (file : NamedFile) → HasNone (module_data paths mapping file)
module-none paths mapping file =
    neither _ _ (build-id-none file.object) (neither _ _ (name-none (debug_path_in paths mapping.file))
    (neither _ _ (name-none (path_in paths mapping.file)) refl))

before-none : (paths : List FilePaths) (mapping : Mapping) (file : Option NamedFile) (others : List Data)
    → items_have_float (items_of others) ≡ false
    → items_have_float (items_of (option_to_list (option_map (module_data paths mapping) file) ++ others)) ≡ false
before-none paths mapping (Some file) others none = neither _ _ (module-none paths mapping file) none
before-none paths mapping None others none = none

modules-none : (paths : List FilePaths) (files : Files) (mappings : List Mapping)
    → items_have_float (items_of (modules_data paths files mappings)) ≡ false
modules-none paths files [] = refl
modules-none paths files (mapping ∷ others) =
    ap (λ list. items_have_float (items_of list)) (flat_map-cons (λ mapping. option_to_list (module_of paths files mapping)) mapping others)
    ∙ before-none paths mapping (slice_get files.list.items mapping.file) (modules_data paths files others) (modules-none paths files others)

-- what is said of a process besides its threads
pub head-none : (paths : List FilePaths) (dump : DumpView) (files : Files) (mappings : List Mapping)
    → HasNone (object (dump_members paths dump files mappings no_members))
head-none paths dump files mappings =
    neither _ _ (crash-none dump.threads) (neither _ _ (modules-none paths files mappings)
    (neither _ _ (number-none dump.pid) (neither _ _ (name-none dump.name) refl)))

-- a thread with its stack
pub thread-none : (files : Files) (mappings : List Mapping) (thread : ThreadView) (stack : StackView) → HasNone (thread_data files mappings thread stack)
thread-none files mappings thread stack =
    neither _ _ (address-none (end_address_of stack)) (neither _ _ (frames-none files mappings (frames_of stack))
    (neither _ _ (name-none thread.name) refl))
