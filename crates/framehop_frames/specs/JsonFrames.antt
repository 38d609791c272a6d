-- Frames and how a stack ended, as JSON.
use Rattle.std.specs.Prelude.{ℕ, ◌-◌, List, codes, Option, Some, None, slice_get}
use Rattle.std.specs.List.{find}
use Rattle.serde_json.specs.Data.{Data, null, boolean, string, object, member, no_members}
use Rattle.framehop_core.specs.CodeAddress.{address_of}
use Rattle.framehop_backtrace.specs.declared.frame.FoundBy.{FoundBy}
use Rattle.framehop_backtrace.specs.declared.frame.FoundBy.TheVariants.{First, Cfi, Signal, Run, FramePointer, Guess}
use Rattle.framehop_processes.specs.declared.mapping.Mapping.{Mapping}
use Rattle.framehop_processes.specs.Place.{PlaceView, in_function, in_unnamed, in_file, unmapped, has_address}
use Rattle.framehop_processes.specs.declared.files.Files.{Files}
use Rattle.framehop_processes.specs.declared.files.NamedFile.{NamedFile}
use Rattle.framehop_frames.specs.JsonValues.{number_data, address_data, name_data, or_null, values_from}
use Rattle.framehop_frames.specs.Line.{ShownFrame, looked_up, is_after_call, frame_place}

-- a file, and the address that it states for a place in it: how far that is from its stated address 0
abbrev pub offset_data : NamedFile → ℕ → Data
offset_data file offset = object (
    member (codes "file") (name_data file.name.items) (
    member (codes "offset") (address_data offset) no_members))

abbrev pub module_by : Files → ℕ → Mapping → Data
module_by files address mapping =
    or_null (λ file. offset_data file (address - mapping.base_avma)) (slice_get files.list.items mapping.file)

-- the file that a frame is in, by the mapping that has the address that is looked up; null where none has it
abbrev pub module_at : Files → List Mapping → ShownFrame → Data
module_at files mappings frame =
    or_null (module_by files (address_of frame.location)) (find (has_address (looked_up frame)) mappings)

-- A function: its name, if it is known, and how far an address is from its start. Of one without a name the file's address
-- of its start is told, too.
abbrev pub in_function_data : Option (List ℕ) → ℕ → Option ℕ → Data
in_function_data name offset start = object (
    member (codes "name") (or_null name_data name) (
    member (codes "offset") (address_data offset) (
    member (codes "start") (or_null address_data start) no_members)))

-- the function of a place; null where none is known
abbrev pub function_data : PlaceView → Data
function_data (in_function file name offset) = in_function_data (Some name) offset None
function_data (in_unnamed file start address) = in_function_data None (address - start) (Some start)
function_data (in_file file address) = null
function_data unmapped = null

-- how a frame was found, in the words of blocks: the first frame has none
abbrev pub found_data : FoundBy → Data
found_data First = null
found_data Cfi = string (codes "cfi")
found_data Signal = string (codes "signal")
found_data Run = string (codes "code")
found_data FramePointer = string (codes "frame-pointer")
found_data Guess = string (codes "guess")

-- A frame with its number. Address, file and function are those of one place. After a call the byte before it is looked up.
abbrev pub frame_data : Files → List Mapping → ℕ → ShownFrame → Data
frame_data files mappings n frame = object (
    member (codes "address") (address_data (address_of frame.location)) (
    member (codes "after_call") (boolean (is_after_call frame)) (
    member (codes "found_by") (found_data frame.found) (
    member (codes "frame") (number_data n) (
    member (codes "function") (function_data (frame_place files mappings frame)) (
    member (codes "module") (module_at files mappings frame) (
    member (codes "signal_trampoline") (boolean frame.is_trampoline) no_members)))))))

-- frames, the innermost first
abbrev pub frames_data : Files → List Mapping → List ShownFrame → List Data
frames_data files mappings frames = values_from (frame_data files mappings) 0 frames
