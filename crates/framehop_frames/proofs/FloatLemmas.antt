-- The JSON values of frames and files have no number with a point: so their texts are known.
use Rattle.std.proofs.Common.{◌≡◌, ℕ, ◌+◌, ◌-◌, List, [], ◌∷◌, Bool, false, ◌||◌, Option, Some, None, refl, ap, ◌∙◌}
use Rattle.std.specs.Prelude.{slice_get}
use Rattle.std.specs.List.{find}
use Rattle.serde_json.specs.Data.{Data}
use Rattle.serde_json.specs.View.{items_of}
use Rattle.serde_json.specs.Written.{has_float, items_have_float}
use Rattle.framehop_backtrace.specs.declared.frame.FoundBy.{FoundBy}
use Rattle.framehop_backtrace.specs.declared.frame.FoundBy.TheVariants.{First, Cfi, Signal, Run, FramePointer, Guess}
use Rattle.framehop_core.specs.CodeAddress.{address_of}
use Rattle.framehop_processes.specs.declared.mapping.Mapping.{Mapping}
use Rattle.framehop_processes.specs.Place.{PlaceView, in_function, in_unnamed, in_file, unmapped, has_address}
use Rattle.framehop_processes.specs.declared.files.Files.{Files}
use Rattle.framehop_processes.specs.declared.files.NamedFile.{NamedFile}
use Rattle.framehop_processes.specs.declared.object_file.ObjectFile.{ObjectFile}
use Rattle.framehop_frames.specs.JsonFiles.{build_id_text, build_id_data, path_in, debug_path_in, file_data, files_data}
use Rattle.framehop_frames.specs.JsonFrames.{offset_data, module_by, module_at, in_function_data, function_data, found_data, frame_data, frames_data}
use Rattle.framehop_frames.specs.JsonValues.{number_data, address_data, name_data, or_null, values_from}
use Rattle.framehop_frames.specs.Line.{ShownFrame, looked_up, frame_place}
use Rattle.framehop_frames.specs.declared.json_files.FilePaths.{FilePaths}

abbrev pub HasNone : Data → Type 0
HasNone value = has_float value ≡ false

pub neither : (a b : Bool) → a ≡ false → b ≡ false → (a || b) ≡ false
neither a b first second = ap (λ some. some || b) first ∙ second

pub none-or-null : {A : Type 0} (value : A → Data) → ((x : A) → HasNone (value x)) → (some : Option A) → HasNone (or_null value some)
none-or-null value none (Some x) = none x
none-or-null value none None = refl

pub values-none : {A : Type 0} (value : ℕ → A → Data) → ((n : ℕ) (x : A) → HasNone (value n x)) → (n : ℕ) (items : List A)
    → items_have_float (items_of (values_from value n items)) ≡ false
values-none value none n [] = refl
values-none value none n (x ∷ others) = neither _ _ (none n x) (values-none value none (n + 1) others)

-- an address, a name or a number, or null
pub address-none : (some : Option ℕ) → HasNone (or_null address_data some)
address-none (Some x) = refl
address-none None = refl

pub name-none : (some : Option (List ℕ)) → HasNone (or_null name_data some)
name-none (Some x) = refl
name-none None = refl

pub number-none : (some : Option ℕ) → HasNone (or_null number_data some)
number-none (Some x) = refl
number-none None = refl

-- files
build-id-text-none : (build_id : List ℕ) → HasNone (build_id_text build_id)
build-id-text-none [] = refl
build-id-text-none (byte ∷ others) = refl

pub build-id-none : (object : Option ObjectFile) → HasNone (or_null build_id_data object)
build-id-none (Some file) = build-id-text-none file.build_id.items
build-id-none None = refl

file-none : (path debug_path : Option (List ℕ)) (file : NamedFile) → HasNone (file_data path debug_path file)
file-none path debug_path file =
    neither _ _ (build-id-none file.object) (neither _ _ (name-none debug_path) (neither _ _ (name-none path) refl))

pub files-none : (paths : List FilePaths) (files : List NamedFile) → items_have_float (items_of (files_data paths files)) ≡ false
files-none paths files =
    values-none (λ n file. file_data (path_in paths n) (debug_path_in paths n) file)
    (λ n file. file-none (path_in paths n) (debug_path_in paths n) file) 0 files

-- frames
found-none : (found : FoundBy) → HasNone (found_data found)
found-none First = refl
found-none Cfi = refl
found-none Signal = refl
found-none Run = refl
found-none FramePointer = refl
found-none Guess = refl

in-function-none : (name : Option (List ℕ)) (offset : ℕ) (start : Option ℕ) → HasNone (in_function_data name offset start)
in-function-none name offset start = neither _ _ (name-none name) (neither _ _ (address-none start) refl)

function-none : (place : PlaceView) → HasNone (function_data place)
function-none (in_function file name offset) = in-function-none (Some name) offset None
function-none (in_unnamed file start address) = in-function-none None (address - start) (Some start)
function-none (in_file file address) = refl
function-none unmapped = refl

module-by-none : (files : Files) (address : ℕ) (mapping : Mapping) → HasNone (module_by files address mapping)
module-by-none files address mapping =
    none-or-null (λ file. offset_data file (address - mapping.base_avma)) (λ file. refl) (slice_get files.list.items mapping.file)

module-at-none : (files : Files) (mappings : List Mapping) (frame : ShownFrame) → HasNone (module_at files mappings frame)
module-at-none files mappings frame =
    let address = address_of frame.location in
    none-or-null (module_by files address) (module-by-none files address) (find (has_address (looked_up frame)) mappings)

frame-none : (files : Files) (mappings : List Mapping) (n : ℕ) (frame : ShownFrame) → HasNone (frame_data files mappings n frame)
frame-none files mappings n frame =
    neither _ _ (found-none frame.found) (neither _ _ (function-none (frame_place files mappings frame))
    (neither _ _ (module-at-none files mappings frame) refl))

pub frames-none : (files : Files) (mappings : List Mapping) (frames : List ShownFrame)
    → items_have_float (items_of (frames_data files mappings frames)) ≡ false
frames-none files mappings frames = values-none (frame_data files mappings) (frame-none files mappings) 0 frames
