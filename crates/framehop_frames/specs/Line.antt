-- Stacks as text: folded stacks, as flame graph tools read them (Brendan Gregg's FlameGraph, `stackcollapse-perf.pl`), and
-- blocks of a line for each frame.
use Rattle.std.specs.Prelude.{ℕ, ◌+◌, ◌-◌, ◌/◌, ◌%◌, nat_le, nat_lt, length, take, Bool, true, false, not, ◌&&◌, ◌||◌, List, [], ◌∷◌, ◌++◌, codes, reverse, Option, Some, None, ◌==◌, if◌then◌else◌}
use Rattle.std.specs.Fmt.{decimal, digits}
use Rattle.std.specs.List.{after_last, flat_map, list_any, take_while}
use Rattle.std.specs.Str.{is_utf8}
use Rattle.framehop_core.specs.CodeAddress.{FrameLocation, address_of, lookup_address, is_return_address}
use Rattle.framehop_core.specs.declared.error.Error.{Error}
use Rattle.framehop_core.specs.declared.error.Error.TheVariants.{CouldNotReadStack, FramepointerUnwindingMovedBackwards, DidNotAdvance, IntegerOverflow, ReturnAddressIsNull, OutOfMemory}
use Rattle.framehop_backtrace.specs.declared.frame.BacktraceEnd.{BacktraceEnd}
use Rattle.framehop_backtrace.specs.declared.frame.BacktraceEnd.TheVariants.{Root, FramePointerZero, Limit, SignalFrameUnread, CfaUnknown, ReturnAddressUnknown, DidNotAdvance as RowDidNotAdvance, RegistersUnknown, Refused, NoCaller, NotCode}
use Rattle.framehop_backtrace.specs.declared.frame.FoundBy.{FoundBy}
use Rattle.framehop_explain.specs.Note.{has_c1_after}
use Rattle.framehop_frames.specs.Unseen.{has_unseen_after}
use Rattle.framehop_backtrace.specs.declared.frame.FoundBy.TheVariants.{First, Cfi, Signal, Run, FramePointer, Guess}
use Rattle.framehop_processes.specs.declared.mapping.Mapping.{Mapping}
use Rattle.framehop_processes.specs.declared.files.Files.{Files}
use Rattle.framehop_processes.specs.Place.{PlaceView, in_function, in_unnamed, in_file, unmapped, place_at}

-- in lower-case hexadecimal without leading zeros
abbrev pub hexadecimal : ℕ → List ℕ
hexadecimal n = digits 16 false n

-- ---- names, which a file says that others made

-- how many bytes of a name are printed
abbrev pub LONGEST_NAME : ℕ
LONGEST_NAME = 2048

-- a text: UTF-8 without control characters of C1 and without those that are not seen
unfoldable pub is_text : List ℕ → Bool
is_text name = is_utf8 name && not (has_c1_after 0 name || has_unseen_after 0 0 name)

-- a digit of a number in hexadecimal
abbrev pub hex_digit : ℕ → ℕ
hex_digit n = if nat_lt n 10 then 48 + n else 87 + n

-- a byte that a terminal might obey: `\xNN`
abbrev pub escaped : ℕ → List ℕ
escaped byte = codes "\\x" ++ hex_digit (byte / 16) ∷ hex_digit (byte % 16) ∷ []

-- a byte of a control character of C0 or DEL; or one beyond ASCII, where the name is no text
abbrev pub is_escaped : Bool → ℕ → Bool
is_escaped text byte = nat_lt byte 32 || (byte == 127) || (nat_le 128 byte && not text)

-- a byte that is not printed as it is
abbrev pub is_changed : Bool → ℕ → Bool
is_changed text byte = (byte == 59) || is_escaped text byte

-- a byte of a name as it is printed: a `;` would end the name, so a colon is in its place
abbrev pub printed_byte : Bool → ℕ → List ℕ
printed_byte text byte = if byte == 59 then codes ":" else (if is_escaped text byte then escaped byte else byte ∷ [])

-- what stands for the rest of a name that is cut
abbrev pub cut_text : List ℕ → List ℕ
cut_text name = if nat_lt LONGEST_NAME (length name) then codes "..." else []

-- a name as it is printed, by its part that is
abbrev pub printed : List ℕ → List ℕ
printed part = flat_map (printed_byte (is_text part)) part

unfoldable pub plain : List ℕ → List ℕ
plain name = printed (take LONGEST_NAME name) ++ cut_text name

-- a file's name without its folders
abbrev pub base_name : List ℕ → List ℕ
base_name path = after_last (λ byte. byte == 47) path

-- what a place is called: its function, or else its address in its file
unfoldable pub label_of : PlaceView → List ℕ
label_of (in_function file name offset) = plain name
label_of (in_unnamed file start address) = plain (base_name file) ++ codes "+0x" ++ hexadecimal start
label_of (in_file file address) = plain (base_name file) ++ codes "+0x" ++ hexadecimal address
label_of unmapped = codes "[unknown]"

-- what a refusal is called: gdb says "Cannot access memory at address" of a word that can't be read
abbrev pub refusal_name : Error → List ℕ
refusal_name (CouldNotReadStack address) = codes "cannot-access-memory"
refusal_name FramepointerUnwindingMovedBackwards = codes "moved-backwards"
refusal_name DidNotAdvance = codes "did-not-advance"
refusal_name IntegerOverflow = codes "integer-overflow"
refusal_name ReturnAddressIsNull = codes "null-return-address"
refusal_name OutOfMemory = codes "out-of-memory"

-- what the end of a walk is called
abbrev pub end_name : BacktraceEnd → List ℕ
end_name Root = codes "root"
end_name FramePointerZero = codes "frame-pointer-0"
end_name Limit = codes "limit"
end_name SignalFrameUnread = codes "signal-frame-unread"
end_name CfaUnknown = codes "cfa-unknown"
end_name ReturnAddressUnknown = codes "return-address-unknown"
end_name RowDidNotAdvance = codes "did-not-advance"
end_name RegistersUnknown = codes "registers-unknown"
end_name (Refused error) = refusal_name error
end_name NoCaller = codes "no-caller"
end_name (NotCode address) = codes "not-code"

-- the address that a walk ended at: that of a word which can't be read, or the one in no code
abbrev pub address_of_refusal : Error → Option ℕ
address_of_refusal (CouldNotReadStack address) = Some address
address_of_refusal error = None

abbrev pub address_of_end : BacktraceEnd → Option ℕ
address_of_end (Refused error) = address_of_refusal error
address_of_end (NotCode address) = Some address
address_of_end end = None

-- an address after a name, if there is one
abbrev pub address_text : Option ℕ → List ℕ
address_text (Some address) = codes " " ++ hexadecimal address
address_text None = []

-- what the end of a walk is called, with its address
abbrev pub end_text : BacktraceEnd → List ℕ
end_text end = end_name end ++ address_text (address_of_end end)

-- a mark between frames
abbrev pub mark : List ℕ → List ℕ
mark name = codes ";[" ++ name ++ codes "]"

-- a stack that does not reach its root has the name of its end at its outer end
abbrev pub mark_of : BacktraceEnd → List ℕ
mark_of Root = []
mark_of end = mark (end_name end)

-- the labels of frames, of which the innermost comes first, each after a `;` from the outermost on
abbrev pub frames_text : {Frame : Type 0} → (Frame → List ℕ) → List Frame → List ℕ
frames_text label frames = flat_map (λ frame. 59 ∷ label frame) (reverse frames)

-- a frame as it is shown: where it is, how it was found, and whether it is in a trampoline, to which the handler of a
-- signal returns
pub record ShownFrame : Type 0 where
  pub location : FrameLocation
  pub found : FoundBy
  pub is_trampoline : Bool

-- The address that is looked up for a frame: a handler returns to the first instruction of a trampoline, after no call.
abbrev pub looked_up : ShownFrame → ℕ
looked_up frame = if frame.is_trampoline then address_of frame.location else lookup_address frame.location

-- a frame is after a call: the byte before its address is looked up
abbrev pub is_after_call : ShownFrame → Bool
is_after_call frame = is_return_address frame.location && not frame.is_trampoline

-- A place for another address than the one that was looked up, in the same function or file: as far from where that begins.
abbrev pub told_at : ℕ → ℕ → PlaceView → PlaceView
told_at address looked_up (in_function file name offset) = in_function file name (address - (looked_up - offset))
told_at address looked_up (in_unnamed file start svma) = in_unnamed file start (address - (looked_up - svma))
told_at address looked_up (in_file file svma) = in_file file (address - (looked_up - svma))
told_at address looked_up unmapped = unmapped

-- Where a frame is: in the function of the address that is looked up, at its own address, as gdb prints it.
abbrev pub frame_place : Files → List Mapping → ShownFrame → PlaceView
frame_place files mappings frame =
    told_at (address_of frame.location) (looked_up frame) (place_at files mappings (looked_up frame))

-- what a frame is called: a trampoline as debuggers call it
abbrev pub frame_label : Files → List Mapping → ShownFrame → List ℕ
frame_label files mappings frame =
    if frame.is_trampoline then codes "<signal handler called>"
    else label_of (place_at files mappings (lookup_address frame.location))

-- a frame is sure, but for those that no unwind data tells
abbrev pub is_sure_by : FoundBy → Bool
is_sure_by Run = false
is_sure_by FramePointer = false
is_sure_by Guess = false
is_sure_by First = true
is_sure_by Cfi = true
is_sure_by Signal = true

abbrev pub is_sure : ShownFrame → Bool
is_sure frame = is_sure_by frame.found

-- a frame is a guess
abbrev pub is_guess_by : FoundBy → Bool
is_guess_by Guess = true
is_guess_by Run = false
is_guess_by FramePointer = false
is_guess_by First = false
is_guess_by Cfi = false
is_guess_by Signal = false

abbrev pub is_guess : ShownFrame → Bool
is_guess frame = is_guess_by frame.found

-- one of frames is a guess
abbrev pub has_guess : List ShownFrame → Bool
has_guess frames = list_any is_guess frames

-- the frames that are shown: all, or only those before the first that is not sure
abbrev pub part_of : Bool → List ShownFrame → List ShownFrame
part_of sure frames = if sure then take_while is_sure frames else frames

-- where an address of a file is that is in no function with a name
abbrev pub unnamed_text : List ℕ → ℕ → List ℕ
unnamed_text file address = codes "[unknown] (" ++ plain file ++ codes "+0x" ++ hexadecimal address ++ codes ")"

-- a place in a block: its function and the file, or its file and the address in it
unfoldable pub described : PlaceView → List ℕ
described (in_function file name offset) =
    plain name ++ codes "+0x" ++ hexadecimal offset ++ codes " (" ++ plain file ++ codes ")"
described (in_unnamed file start address) = unnamed_text file address
described (in_file file address) = unnamed_text file address
described unmapped = codes "[unknown] ([unknown])"

-- how a frame was found: nothing is said of the first
abbrev pub found_text : FoundBy → List ℕ
found_text First = []
found_text Cfi = codes " [cfi]"
found_text Signal = codes " [signal]"
found_text Run = codes " [code]"
found_text FramePointer = codes " [frame-pointer]"
found_text Guess = codes " [guess]"

-- a trampoline is told before its place
abbrev pub trampoline_text : Bool → List ℕ
trampoline_text is_trampoline = if is_trampoline then codes "<signal handler called> " else []

-- the line of a frame in a block: its address, where it is, and how it was found
unfoldable pub frame_line : Files → List Mapping → ShownFrame → List ℕ
frame_line files mappings frame =
    hexadecimal (address_of frame.location) ++ 32 ∷ trampoline_text frame.is_trampoline
    ++ described (frame_place files mappings frame) ++ found_text frame.found ++ 10 ∷ []

-- the last line of a block, and a blank line
abbrev pub last_line : List ℕ → List ℕ
last_line end = codes "[" ++ end ++ codes "]\n\n"

-- the head of a block: the name of the thread, its process and itself, and the time in nanoseconds, if there is one
abbrev pub time_text : Option ℕ → List ℕ
time_text (Some time) = 32 ∷ decimal time ++ codes ":\n"
time_text None = codes ":\n"

-- the head of a block
unfoldable pub head_of : List ℕ → ℕ → ℕ → Option ℕ → List ℕ
head_of name pid tid time = plain name ++ 32 ∷ decimal pid ++ 47 ∷ decimal tid ++ time_text time
