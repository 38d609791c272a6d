-- The notes under the lines of a stack's block, one for each line: nothing of the head, of each frame what its caller was
-- found by, why the walk was refused, if it was, and nothing of the blank line.
use Rattle.std.specs.Prelude.{◌≡◌, ℕ, Bool, true, false, List, [], ◌∷◌, ◌++◌, map, codes, Option, Some, None, Result, Ok, Err}
use Rattle.framehop_core.specs.CodeAddress.{FrameLocation, location_of}
use Rattle.framehop_core.specs.ErrorText.{error_text}
use Rattle.framehop_core.specs.Memory.{Memory}
use Rattle.framehop.specs.Modules.{ModuleView}
use Rattle.framehop_backtrace.specs.Backtrace.{Backtrace, FrameView}
use Rattle.framehop_backtrace.specs.Code.{Code, is_in_trampoline}
use Rattle.framehop_backtrace.specs.Rows.{Finding}
use Rattle.framehop_backtrace.specs.declared.frame.BacktraceEnd.{BacktraceEnd}
use Rattle.framehop_backtrace.specs.declared.frame.BacktraceEnd.TheVariants.{Root, FramePointerZero, Limit, SignalFrameUnread, CfaUnknown, ReturnAddressUnknown, DidNotAdvance, RegistersUnknown, Refused, NoCaller, NotCode}
use Rattle.framehop_backtrace.specs.declared.frame.FoundBy.{FoundBy}
use Rattle.framehop_explain.specs.Note.{note_line}
use Rattle.framehop_frames.specs.Missing.{end_of_walk}
use Rattle.framehop_frames.specs.Walker.{Walker, backtrace_from}
use Rattle.framehop_frames.specs.declared.machine.Start.{Start}
use Rattle.framehop_frames.specs.declared.stack.Stack.{Stack}
use Rattle.framehop_frames.specs.declared.stack.StackFrame.{StackFrame}

-- what is noted of a frame: where it is and with which registers, how it was found, and whether it is in a trampoline
pub record NotedFrame (Regs : Type 0) : Type 0 where
  pub location : FrameLocation
  pub regs : Regs
  pub found : FoundBy
  pub is_trampoline : Bool

-- a frame of a stack, and one of a backtrace, of which the trampoline is known by the code
abbrev pub noted_frame : {Regs : Type 0} → StackFrame Regs → NotedFrame Regs
noted_frame frame = record {
  location = location_of frame.address;
  regs = frame.regs;
  found = frame.found;
  is_trampoline = frame.is_trampoline;
}

abbrev pub noted_of : {Regs : Type 0} → Code → FrameView Regs → NotedFrame Regs
noted_of code frame = record {
  location = frame.location;
  regs = frame.regs;
  found = frame.found;
  is_trampoline = is_in_trampoline code frame.location;
}

-- what is noted of a stack: its frames, how the step from the last one ended, and how its walk did
pub record NotedStack (Regs : Type 0) : Type 0 where
  pub frames : List (NotedFrame Regs)
  pub step_end : BacktraceEnd
  pub end : BacktraceEnd

abbrev pub noted_stack : {Regs : Type 0} → Stack Regs → NotedStack Regs
noted_stack stack =
    record { frames = map noted_frame stack.frames.items; step_end = stack.step_end; end = stack.end }

abbrev pub option_noted : {Regs : Type 0} → Option (Stack Regs) → Option (NotedStack Regs)
option_noted (Some stack) = Some (noted_stack stack)
option_noted None = None

-- that of the backtrace from the registers with which a walk begins, at most so many frames
abbrev pub noted_by : {Regs : Type 0} → Code → Backtrace Regs → BacktraceEnd → NotedStack Regs
noted_by code backtrace end =
    record { frames = map (noted_of code) backtrace.frames; step_end = backtrace.end; end = end }

abbrev pub noted_from : {Regs : Type 0} → Walker Regs → ℕ → List ModuleView → (FrameLocation → Finding) → Memory → Code
    → Start Regs → NotedStack Regs
noted_from walker limit modules rows memory code start =
    let backtrace = backtrace_from walker limit modules rows memory code start in
    noted_by code backtrace (end_of_walk walker.machine rows memory backtrace)

-- how the caller of a frame was found, by the frames after it, or how the walk ended there
abbrev pub caller_of : {Regs : Type 0} → BacktraceEnd → List (NotedFrame Regs) → Result FoundBy BacktraceEnd
caller_of end [] = Err end
caller_of end (frame ∷ frames) = Ok frame.found

-- the note of the end of a walk: why it was refused, if it was
abbrev pub end_note : BacktraceEnd → List ℕ
end_note (Refused error) = note_line (error_text error)
end_note Root = []
end_note FramePointerZero = []
end_note Limit = []
end_note SignalFrameUnread = []
end_note CfaUnknown = []
end_note ReturnAddressUnknown = []
end_note DidNotAdvance = []
end_note RegistersUnknown = []
end_note NoCaller = []
end_note (NotCode address) = []

-- `is_note`: a note is that of a frame at a location that is in no trampoline, from registers, by how its caller was found
module _ {Regs : Type 0} (is_note : FrameLocation → Regs → Result FoundBy BacktraceEnd → List ℕ → Type 0) where
  -- a note is that of a frame, which may be in a trampoline (`true`)
  abbrev pub IsNoteIf : Bool → FrameLocation → Regs → Result FoundBy BacktraceEnd → List ℕ → Type 0
  IsNoteIf true location regs caller note =
      note ≡ note_line (codes "a signal frame: the registers of the interrupted code")
  IsNoteIf false location regs caller note = is_note location regs caller note

  abbrev pub IsFrameNote : NotedFrame Regs → Result FoundBy BacktraceEnd → List ℕ → Type 0
  IsFrameNote frame caller note = IsNoteIf frame.is_trampoline frame.location frame.regs caller note

  -- notes are those of frames up to the end of a walk
  abbrev pub AreFrameNotes : BacktraceEnd → List (NotedFrame Regs) → List (List ℕ) → Type 0
  AreFrameNotes end [] notes = notes ≡ []
  AreFrameNotes end (frame ∷ frames) notes = (note : List ℕ) × IsFrameNote frame (caller_of end frames) note
      × ((later : List (List ℕ)) × AreFrameNotes end frames later × (notes ≡ note ∷ later))

  -- notes are those of a stack's block: of one without frames there is nothing to note
  abbrev pub AreStackNotes : Option (NotedStack Regs) → List (List ℕ) → Type 0
  AreStackNotes None notes = notes ≡ [] ∷ [] ∷ [] ∷ []
  AreStackNotes (Some stack) notes = (found : List (List ℕ)) × AreFrameNotes stack.step_end stack.frames found
      × (notes ≡ [] ∷ found ++ end_note stack.end ∷ [] ∷ [])
