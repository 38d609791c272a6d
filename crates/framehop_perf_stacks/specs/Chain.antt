-- The frames of a sample's call chain: those of the kernel, and those of the user's side where there is no copy of the stack.
use Rattle.std.specs.Prelude.{ℕ, ◌-◌, ◌++◌, Bool, true, false, List, [], ◌∷◌, map, codes, Option, Some, None, option_map, Result, Ok, Err, ◌==◌, if◌then◌else◌}
use Rattle.std.specs.BTreeMap.{BTreeMap, get}
use Rattle.std.specs.BTreeMap.Range.{entries_between}
use Rattle.std.specs.Borrow.{Bor}
use Rattle.std.specs.Global.{Global}
use Rattle.std.specs.List.{flat_map}
use Rattle.std.specs.Option.{option_or}
use Rattle.std.specs.Ordering.{nat_cmp}
use Rattle.std.specs.declared.ops.Bound.TheVariants.{Included, Unbounded}
use Rattle.std.specs.declared.vec.Vec.{Vec}
use Rattle.framehop_backtrace.specs.declared.frame.FoundBy.TheVariants.{First, FramePointer}
use Rattle.framehop_core.specs.CodeAddress.{FrameLocation, at_instruction_pointer, at_return_address, address_of, lookup_address}
use Rattle.framehop_frames.specs.Line.{ShownFrame, plain, hexadecimal, frames_text}
use Rattle.framehop_recording.specs.Chain.{kernel_part, user_part}
use Rattle.framehop_recording.specs.declared.error.RecordingError.{RecordingError}
use Rattle.framehop_recording.specs.declared.error.RecordingError.TheVariants.{NoUserStack}
use Rattle.framehop_perf_stacks.specs.declared.kernel.KernelNames.{KernelNames}
use Rattle.framehop_perf_stacks.specs.declared.run.Options.{Options}

-- Where the frames of a chain are: the innermost at its instruction pointer, each other at a return address, if that is one.
abbrev pub caller_at : ℕ → FrameLocation
caller_at address = if address == 0 then at_instruction_pointer 0 else at_return_address address

abbrev pub chain_locations : List ℕ → List FrameLocation
chain_locations [] = []
chain_locations (address ∷ addresses) = at_instruction_pointer address ∷ map caller_at addresses

-- ---- the kernel

-- the names of functions, by where they start
abbrev pub FunctionNames : Type 0
FunctionNames = BTreeMap ℕ (Vec ℕ Global)

-- the name of the function that starts at an address
abbrev pub name_from : FunctionNames → ℕ → Option (List ℕ)
name_from names start = option_map (λ name. name.items) (get nat_cmp names start)

abbrev pub last_of : {A : Type 0} → List A → Option A
last_of [] = None
last_of (x ∷ xs) = option_or (last_of xs) (Some x)

-- The function of an address, by where it starts and its name: of those that start at or before it the last.
unfoldable pub function_at : FunctionNames → ℕ → Option (ℕ × List ℕ)
function_at names address =
    option_map (λ entry. (entry.0, entry.1.items)) (last_of (entries_between nat_cmp Unbounded (Included address) names.entries))

-- what a frame of the kernel is called: its function, or its address, with the mark of `stackcollapse-perf.pl --kernel` of
-- FlameGraph
abbrev pub label_by : Option (ℕ × List ℕ) → ℕ → List ℕ
label_by (Some function) address = plain function.1 ++ codes "_[k]"
label_by None address = codes "0x" ++ hexadecimal address ++ codes "_[k]"

unfoldable pub kernel_label : FunctionNames → FrameLocation → List ℕ
kernel_label names location = label_by (function_at names (lookup_address location)) (address_of location)

-- its line in a block
abbrev pub place_by : Option (ℕ × List ℕ) → ℕ → List ℕ
place_by (Some function) address = plain function.1 ++ codes "+0x" ++ hexadecimal (address - function.0)
place_by None address = codes "[unknown]"

unfoldable pub kernel_line : FunctionNames → FrameLocation → List ℕ
kernel_line names location =
    hexadecimal (address_of location) ++ 32 ∷ place_by (function_at names (lookup_address location)) (address_of location)
    ++ codes " ([kernel])\n"

-- What is shown of a sample's frames of the kernel, by its call chain, where they are asked for and nothing is explained: in
-- a folded stack, innermost, and in a block, first.
abbrev pub kernel_text_by : Option (Bor KernelNames) → Bool → Result (List ℕ) RecordingError → List ℕ
kernel_text_by (Some names) false (Ok chain) = frames_text (kernel_label names.now.by_start) (chain_locations (kernel_part chain))
kernel_text_by (Some names) false (Err refusal) = []
kernel_text_by (Some names) true chain = []
kernel_text_by None explain chain = []

abbrev pub kernel_text : Options → Result (List ℕ) RecordingError → List ℕ
kernel_text options chain = kernel_text_by options.kernel options.explain chain

abbrev pub kernel_lines_by : Option (Bor KernelNames) → Bool → Result (List ℕ) RecordingError → List ℕ
kernel_lines_by (Some names) false (Ok chain) = flat_map (kernel_line names.now.by_start) (chain_locations (kernel_part chain))
kernel_lines_by (Some names) false (Err refusal) = []
kernel_lines_by (Some names) true chain = []
kernel_lines_by None explain chain = []

abbrev pub kernel_lines : Options → Result (List ℕ) RecordingError → List ℕ
kernel_lines options chain = kernel_lines_by options.kernel options.explain chain

-- ---- the user's side

-- the frames of a chain: the kernel finds each caller by the frame pointer
abbrev pub caller_shown : ℕ → ShownFrame
caller_shown address = record { location = caller_at address; found = FramePointer; is_trampoline = false }

abbrev pub chain_frames : List ℕ → List ShownFrame
chain_frames [] = []
chain_frames (address ∷ addresses) =
    record { location = at_instruction_pointer address; found = First; is_trampoline = false } ∷ map caller_shown addresses

-- the frames that are shown in the place of a stack that can't be read: those of the call chain of a sample whose event has
-- no copies of stacks
abbrev pub frames_of_chain : RecordingError → Result (List ℕ) RecordingError → List ShownFrame
frames_of_chain (NoUserStack offset) (Ok chain) = chain_frames (user_part chain)
frames_of_chain refusal chain = []
