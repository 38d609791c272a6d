-- Threads and their stacks as JSON.
use Rattle.std.specs.Prelude.{ℕ, List, [], codes, Option, None, is_some}
use Rattle.serde_json.specs.Data.{Data, boolean, string, array, object, member, no_members}
use Rattle.serde_json.specs.View.{items_of}
use Rattle.framehop_processes.specs.declared.mapping.Mapping.{Mapping}
use Rattle.framehop_processes.specs.declared.files.Files.{Files}
use Rattle.framehop_frames.specs.JsonFrames.{frames_data}
use Rattle.framehop_frames.specs.JsonValues.{number_data, address_data, name_data, or_null}
use Rattle.framehop_frames.specs.Line.{ShownFrame, address_of_end, end_name}
use Rattle.framehop_frames.specs.Stack.{StackView, walked, no_stack}
use Rattle.framehop_dumps.specs.Dump.{ThreadView}

-- the frames of a stack: a thread without registers has none
abbrev pub frames_of : StackView → List ShownFrame
frames_of (walked frames end) = frames
frames_of (no_stack why) = []

-- how its walk ended, or why there is none
abbrev pub end_of : StackView → List ℕ
end_of (walked frames end) = end_name end
end_of (no_stack why) = why

-- the address at which the walk ended, if it ended at one
abbrev pub end_address_of : StackView → Option ℕ
end_address_of (walked frames end) = address_of_end end
end_address_of (no_stack why) = None

-- a thread with its stack
abbrev pub thread_data : Files → List Mapping → ThreadView → StackView → Data
thread_data files mappings thread stack = object (
    member (codes "crashed") (boolean (is_some thread.cause)) (
    member (codes "end") (string (end_of stack)) (
    member (codes "end_address") (or_null address_data (end_address_of stack)) (
    member (codes "frames") (array (items_of (frames_data files mappings (frames_of stack)))) (
    member (codes "name") (or_null name_data thread.name) (
    member (codes "tid") (number_data thread.tid) no_members))))))
