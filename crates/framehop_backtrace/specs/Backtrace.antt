-- A backtrace: the frames of a stack, each with its registers and how it was found.
use Rattle.std.specs.Prelude.{ℕ, zero, suc, Bool, true, false, not, ◌==◌, ◌&&◌, if◌then◌else◌, List, [], ◌∷◌, map, Option, Some, None, option_and_then, unwrap_or, Result, Ok, Err}
use Rattle.std.specs.Option.{option_or}
use Rattle.framehop_core.specs.CodeAddress.{FrameLocation, address_of, lookup_address, at_instruction_pointer, at_return_address, is_first_frame, location_of}
use Rattle.framehop_core.specs.Memory.{Memory}
use Rattle.framehop_core.specs.Outcome.{Outcome, answer_of, registers_after}
use Rattle.framehop_core.specs.declared.error.Error.{Error}
use Rattle.framehop_core.specs.declared.error.Error.TheVariants.{ReturnAddressIsNull}
use Rattle.framehop_cfi.specs.Row.{Row, rule_of}
use Rattle.framehop_cfi.specs.declared.rule.RegisterRule.{RegisterRule}
use Rattle.framehop_cfi.specs.declared.rule.RegisterRule.TheVariants as rule
use Rattle.framehop_callers.specs.Caller.{caller_column, step_of}
use Rattle.framehop_callers.specs.declared.convention.Convention.{Convention}
use Rattle.framehop_callers.specs.Convention.{stack_pointer_of, return_address_of}
use Rattle.framehop_callers.specs.Rules.{Source}
use Rattle.framehop_callers.specs.declared.caller.RowRefusal.{RowRefusal}
use Rattle.framehop_callers.specs.declared.caller.RowRefusal.TheVariants as refusal
use Rattle.framehop_callers.specs.Step.{Source as RunSource}
use Rattle.framehop_callers.specs.declared.run.RunCaller.{RunCaller}
use Rattle.framehop_backtrace.specs.Code.{Code, is_in_trampoline, is_in_code, is_outside_code}
use Rattle.framehop_backtrace.specs.Columns.{column, columns_by, returned_to}
use Rattle.framehop_backtrace.specs.Guess.{evidence_at, evidence_of, is_taken, prefers_frame_pointer}
use Rattle.framehop_backtrace.specs.Machine.{Machine}
use Rattle.framehop_backtrace.specs.Rows.{Finding, by_row, uncovered, no_row}
use Rattle.framehop_backtrace.specs.declared.frame.BacktraceEnd.{BacktraceEnd}
use Rattle.framehop_backtrace.specs.declared.frame.BacktraceEnd.TheVariants.{Root, FramePointerZero, Limit, SignalFrameUnread, CfaUnknown, ReturnAddressUnknown, DidNotAdvance, RegistersUnknown, Refused, NoCaller, NotCode}
use Rattle.framehop_backtrace.specs.declared.frame.FoundBy.{FoundBy}
use Rattle.framehop_backtrace.specs.declared.frame.FoundBy.TheVariants.{First, Cfi, Signal, Run, FramePointer, Guess}
use Rattle.framehop_backtrace.specs.declared.frame.Frame.{Frame}
use Rattle.framehop_backtrace.specs.declared.guess.Evidence.{Evidence}
use Rattle.framehop_backtrace.specs.declared.walk.StackTrace.{StackTrace}

-- ---- frames

-- where a frame is, its registers by columns, those of the library's step, and how it was found
pub record FrameView (Regs : Type 0) : Type 0 where
  pub location : FrameLocation
  pub columns : List (Option ℕ)
  pub regs : Regs
  pub found : FoundBy

abbrev pub frame_view : {Regs : Type 0} → Frame Regs → FrameView Regs
frame_view frame = record {
  location = location_of frame.address;
  columns = frame.columns;
  regs = frame.regs;
  found = frame.found;
}

-- a caller's frame, or the end
abbrev pub Next : Type 0 → Type 0
Next Regs = Result (FrameView Regs) BacktraceEnd

-- a frame that has been made its caller, or the end
abbrev pub moved_to : {Done Regs : Type 0} → Result Done BacktraceEnd → Frame Regs → Next Regs
moved_to (Ok done) frame = Ok (frame_view frame)
moved_to (Err end) frame = Err end

-- ---- the caller of a frame

-- a frame that is found by its return address: 0 is none, and it must be in code
abbrev pub arrived : {Regs : Type 0} → Code → ℕ → FrameView Regs → Next Regs
arrived code address frame =
    if address == 0 then Err (Refused ReturnAddressIsNull)
    else (if is_in_code code address then Ok frame else Err (NotCode address))

-- by a signal frame: the interrupted code, of which all registers are known
abbrev pub interrupted_as : {Regs : Type 0} → Machine Regs → FrameView Regs → Option (ℕ × List (Option ℕ)) → Next Regs
interrupted_as machine frame (Some saved) = Ok (record {
  location = at_instruction_pointer saved.0;
  columns = saved.1;
  regs = machine.merged frame.regs saved.1;
  found = Signal;
})
interrupted_as machine frame None = Err SignalFrameUnread

-- the signal frame is at the stack pointer
abbrev pub by_signal : {Regs : Type 0} → Machine Regs → Code → FrameView Regs → Next Regs
by_signal machine code frame =
    interrupted_as machine frame
    (option_and_then machine.saved
    (option_and_then (λ sp. code.bytes sp machine.frame_size)
    (column frame.columns (stack_pointer_of machine.convention))))

-- why a row gives no caller, as an end
abbrev pub end_of_refusal : RowRefusal → BacktraceEnd
end_of_refusal refusal.Outermost = Root
end_of_refusal refusal.CfaUnknown = CfaUnknown
end_of_refusal refusal.ReturnAddressUnknown = ReturnAddressUnknown
end_of_refusal refusal.DidNotAdvance = DidNotAdvance

-- by a row that leads to a return address without pointer authentication bits, and to these columns
abbrev pub returned_as : {Regs : Type 0} → Machine Regs → Code → FrameView Regs → ℕ → List (Option ℕ) → Next Regs
returned_as machine code frame address columns = arrived code address (record {
  location = at_return_address address;
  columns = columns;
  regs = machine.merged frame.regs columns;
  found = Cfi;
})

-- the words that a run knows: those of the memory, and else those that no process changes
abbrev pub words_of : Memory → Code → Memory
words_of memory code address = option_or (memory address) (code.constant address)

-- what a run reads: these words, the code, and which functions unwind data covers
abbrev pub run_source : Convention → Memory → Code → (ℕ → Bool) → RunSource
run_source convention memory code covers =
    record { convention = convention; memory = words_of memory code; code = code.instruction; is_covered = covers }

-- the columns of a caller by a row: of a frame that is no caller itself with the registers that it has restored
abbrev pub restored_columns : {Regs : Type 0} → Machine Regs → RunSource → FrameView Regs → List (Option ℕ) → List (Option ℕ)
restored_columns machine run frame columns =
    if is_first_frame frame.location then machine.restored run (address_of frame.location) frame.columns columns
    else columns

abbrev pub by_row_step : {Regs : Type 0} → Machine Regs → Code → RunSource → FrameView Regs → Source → Row
    → Result (ℕ × ℕ) RowRefusal → Next Regs
by_row_step machine code run frame source row (Ok step) =
    returned_as machine code frame (machine.strip frame.regs step.1)
    (returned_to machine.convention (machine.strip frame.regs) (machine.strip frame.regs step.1)
    (restored_columns machine run frame (columns_by (caller_column machine.convention source row step.0))))
by_row_step machine code run frame source row (Err error) = Err (end_of_refusal error)

-- by a row, over all registers that are known
abbrev pub by_row_of : {Regs : Type 0} → Machine Regs → Code → Memory → (ℕ → Bool) → FrameView Regs → List ℕ → Row
    → Next Regs
by_row_of machine code memory covers frame section row =
    by_row_step machine code (run_source machine.convention memory code covers) frame
    (record { bytes = section; words = frame.columns; memory = memory }) row
    (step_of machine.convention (record { bytes = section; words = frame.columns; memory = memory }) row)

-- A frame pointer of 0 is a root where a process begins: code at an entry point has no caller.
abbrev pub end_at_entry : Bool → BacktraceEnd → BacktraceEnd
end_at_entry true FramePointerZero = Root
end_at_entry false FramePointerZero = FramePointerZero
end_at_entry entry Root = Root
end_at_entry entry Limit = Limit
end_at_entry entry SignalFrameUnread = SignalFrameUnread
end_at_entry entry CfaUnknown = CfaUnknown
end_at_entry entry ReturnAddressUnknown = ReturnAddressUnknown
end_at_entry entry DidNotAdvance = DidNotAdvance
end_at_entry entry RegistersUnknown = RegistersUnknown
end_at_entry entry (Refused error) = Refused error
end_at_entry entry NoCaller = NoCaller
end_at_entry entry (NotCode address) = NotCode address

abbrev pub at_entry : {Regs : Type 0} → Code → ℕ → Next Regs → Next Regs
at_entry code address (Ok frame) = Ok frame
at_entry code address (Err end) = Err (end_at_entry (code.is_entry address) end)

-- the end of a stack that a step finds
abbrev pub root_of : FoundBy → BacktraceEnd
root_of FramePointer = FramePointerZero
root_of Guess = FramePointerZero
root_of Run = FramePointerZero
root_of First = Root
root_of Cfi = Root
root_of Signal = Root

-- a frame pointer of 0 leads to no frame
abbrev pub has_no_frame_pointer : {Regs : Type 0} → Machine Regs → List (Option ℕ) → Bool
has_no_frame_pointer machine columns = unwrap_or (column columns machine.frame_pointer) 1 == 0

abbrev pub is_by_frame_pointer : FoundBy → Bool
is_by_frame_pointer FramePointer = true
is_by_frame_pointer Guess = false
is_by_frame_pointer Run = false
is_by_frame_pointer First = false
is_by_frame_pointer Cfi = false
is_by_frame_pointer Signal = false

-- the end of a stack at a step that is refused, from these columns
abbrev pub end_of_error : {Regs : Type 0} → Machine Regs → FoundBy → List (Option ℕ) → Error → BacktraceEnd
end_of_error machine found columns error =
    if is_by_frame_pointer found && has_no_frame_pointer machine columns then FramePointerZero else Refused error

-- by what a step of the library from these columns returns, and the registers after it
abbrev pub stepped : {Regs : Type 0} → Machine Regs → Code → FoundBy → List (Option ℕ) → Result (Option ℕ) Error → Regs
    → Next Regs
stepped machine code found columns (Ok (Some address)) regs = arrived code address (record {
  location = at_return_address address;
  columns = machine.columns address regs;
  regs = regs;
  found = found;
})
stepped machine code found columns (Ok None) regs = Err (root_of found)
stepped machine code found columns (Err error) regs = Err (end_of_error machine found columns error)

-- the end of a stack where neither a guess nor the frame pointer leads to a caller, by what the frame pointer's step
-- returns
abbrev pub end_without_caller : {Regs : Type 0} → Machine Regs → List (Option ℕ) → Result (Option ℕ) Error → BacktraceEnd
end_without_caller machine columns (Ok None) = FramePointerZero
end_without_caller machine columns (Ok (Some address)) = NoCaller
end_without_caller machine columns (Err error) =
    if has_no_frame_pointer machine columns then FramePointerZero else NoCaller

-- the same by an outcome
abbrev pub stepped_by : {Regs : Type 0} → Machine Regs → Code → FoundBy → FrameView Regs → Outcome Regs → Next Regs
stepped_by machine code found frame outcome =
    stepped machine code found frame.columns (answer_of outcome) (registers_after frame.regs outcome)

-- the function that has an address, if it is known where that begins, has set its frame pointer before it
abbrev pub has_set_from : {Regs : Type 0} → Machine Regs → Code → ℕ → Option ℕ → Bool
has_set_from machine code address (Some start) = machine.has_set code.bytes start address
has_set_from machine code address None = false

module _ {Regs : Type 0} (machine : Machine Regs) (code : Code) (frame : FrameView Regs) where
  -- by the library's step, which has this outcome, if the registers that it needs are known
  abbrev pub by_library : FoundBy → Outcome Regs → Next Regs
  by_library found outcome =
      if machine.can_step frame.columns then stepped_by machine code found frame outcome else Err RegistersUnknown

  -- what tells that an outcome's return address is that of a call to the frame's function
  abbrev pub evidence_for : Result (Option ℕ) Error → Evidence
  evidence_for answer = evidence_of machine code (code.start_of (address_of frame.location)) answer

  -- By the likelier of two addresses: that by the rule of a function's start, which is a guess, and that of the frame
  -- pointer, if one of them may be after a call.
  abbrev pub guessed : Result (Option ℕ) Error → Regs → Outcome Regs → Next Regs
  guessed answer regs fallback =
      if prefers_frame_pointer
      (has_set_from machine code (address_of frame.location) (code.start_of (address_of frame.location)))
      (evidence_for (answer_of fallback)) (evidence_for answer)
      then stepped_by machine code FramePointer frame fallback
      else (if is_taken (evidence_for answer) then stepped machine code Guess frame.columns answer regs
      else Err (end_without_caller machine frame.columns (answer_of fallback)))

  -- the same, where the architecture can step from the columns that are known
  abbrev pub by_guess : Outcome Regs → Outcome Regs → Next Regs
  by_guess outcome fallback =
      if machine.can_step frame.columns
      then guessed (answer_of outcome) (registers_after frame.regs outcome) fallback
      else Err RegistersUnknown

  -- where the module's call frames do not cover the frame: the rule of a function's start is for first frames
  abbrev pub by_start : Outcome Regs → Outcome Regs → Next Regs
  by_start outcome fallback =
      if is_first_frame frame.location then by_guess outcome fallback else by_library FramePointer outcome

  -- where it has none for it: PE or compact unwind info unwinds it (`true`), or the frame pointer is followed. Outside
  -- of code the rule of a function's start is tried, since a call has just led there.
  abbrev pub without_row : Bool → Outcome Regs → Outcome Regs → Outcome Regs → Next Regs
  without_row by_info outcome start fallback =
      if is_outside_code code frame.location then by_guess start fallback
      else by_library (if by_info then Cfi else FramePointer) outcome

-- the frame of a caller that a run has found, with its stripped return address and columns
abbrev pub run_to : {Regs : Type 0} → Machine Regs → FrameView Regs → ℕ → List (Option ℕ) → FrameView Regs
run_to machine frame address columns = record {
  location = at_return_address address;
  columns = columns;
  regs = machine.merged frame.regs columns;
  found = Run;
}

-- the same, if its address is not 0 and may be after a call
abbrev pub accepted_at : {Regs : Type 0} → Machine Regs → Code → FrameView Regs → ℕ → List (Option ℕ) → Option (FrameView Regs)
accepted_at machine code frame address columns =
    if address == 0 then None
    else (if is_taken (evidence_at machine code (code.start_of (address_of frame.location)) address)
    then Some (run_to machine frame address (returned_to machine.convention (machine.strip frame.regs) address columns)) else None)

abbrev pub accepted : {Regs : Type 0} → Machine Regs → Code → FrameView Regs → RunCaller → Option (FrameView Regs)
accepted machine code frame caller =
    accepted_at machine code frame (machine.strip frame.regs caller.return_address) caller.registers

-- the caller of a frame by running its code
abbrev pub by_run : {Regs : Type 0} → Machine Regs → Code → FrameView Regs → RunSource → Option (FrameView Regs)
by_run machine code frame source =
    option_and_then (accepted machine code frame) (machine.run source (address_of frame.location) frame.columns)

-- a caller, or else another
abbrev pub caller_or : {Regs : Type 0} → Option (FrameView Regs) → Next Regs → Next Regs
caller_or (Some caller) other = Ok caller
caller_or None other = other

-- a row has the return address in memory, at a distance from the CFA
abbrev pub is_stored : Option RegisterRule → Bool
is_stored (Some (rule.Offset offset)) = true
is_stored (Some other) = false
is_stored None = false

-- What a row needs is not known, and a run may tell it: all but the word in which the return address is stored, which a
-- run would read, too.
abbrev pub is_unknown : Bool → BacktraceEnd → Bool
is_unknown stored CfaUnknown = true
is_unknown stored ReturnAddressUnknown = not stored
is_unknown stored Root = false
is_unknown stored FramePointerZero = false
is_unknown stored Limit = false
is_unknown stored SignalFrameUnread = false
is_unknown stored DidNotAdvance = false
is_unknown stored RegistersUnknown = false
is_unknown stored (Refused error) = false
is_unknown stored NoCaller = false
is_unknown stored (NotCode address) = false

-- a frame with the registers that a run of its callee's code knows, where that comes to the frame
abbrev pub completed : {Regs : Type 0} → Machine Regs → RunSource → Option (FrameView Regs) → FrameView Regs → FrameView Regs
completed machine run None frame = frame
completed machine run (Some callee) frame =
    record frame { columns = machine.completed run (address_of callee.location) callee.columns frame.columns }

-- a caller, or else another
abbrev pub found_or : {Regs : Type 0} → Next Regs → Next Regs → Next Regs
found_or (Ok frame) other = Ok frame
found_or (Err end) other = other

-- by a row, or where what it needs is not known by the row over more registers, or else by a run
abbrev pub row_or : {Regs : Type 0} → Bool → Next Regs → Option (FrameView Regs) → Next Regs → Next Regs
row_or stored again run (Ok frame) = Ok frame
row_or stored again run (Err end) = if is_unknown stored end then found_or again (caller_or run (Err end)) else Err end

-- a stack: its machine; what a step of the library does, and whether PE or compact unwind info unwinds a frame; the
-- rows of the modules, and which functions their unwind data covers; the memory and the code
pub record Stack (Regs : Type 0) : Type 0 where
  pub machine : Machine Regs
  pub step : FrameLocation → Regs → Memory → Outcome Regs
  pub is_by_info : FrameLocation → Regs → Memory → Bool
  pub rows : FrameLocation → Finding
  pub covers : ℕ → Bool
  pub memory : Memory
  pub code : Code

-- a stack of these parts
abbrev pub stack_of : {Regs : Type 0} → Machine Regs → (FrameLocation → Regs → Memory → Outcome Regs)
    → (FrameLocation → Regs → Memory → Bool) → (FrameLocation → Finding) → (ℕ → Bool) → Memory → Code → Stack Regs
stack_of machine step is_by_info rows covers memory code = record {
  machine = machine;
  step = step;
  is_by_info = is_by_info;
  rows = rows;
  covers = covers;
  memory = memory;
  code = code;
}

-- a frame whose callee is known, if it has one
module _ {Regs : Type 0} (stack : Stack Regs) (callee : Option (FrameView Regs)) (frame : FrameView Regs) where
  -- by what the modules have for the frame
  abbrev pub by_finding : Finding → Next Regs
  by_finding (by_row section row) =
      row_or (is_stored (rule_of row.rules (record { 0 = return_address_of stack.machine.convention })))
      (by_row_of stack.machine stack.code stack.memory stack.covers
      (completed stack.machine (run_source stack.machine.convention stack.memory stack.code stack.covers) callee frame) section row)
      (by_run stack.machine stack.code frame (run_source stack.machine.convention stack.memory stack.code stack.covers))
      (by_row_of stack.machine stack.code stack.memory stack.covers frame section row)
  by_finding uncovered =
      at_entry stack.code (lookup_address frame.location)
      (caller_or (by_run stack.machine stack.code frame (run_source stack.machine.convention stack.memory stack.code stack.covers))
      (by_start stack.machine stack.code frame (stack.step frame.location frame.regs stack.memory)
      (stack.machine.fallback (is_first_frame frame.location) frame.regs stack.memory)))
  by_finding no_row =
      at_entry stack.code (lookup_address frame.location)
      (without_row stack.machine stack.code frame (stack.is_by_info frame.location frame.regs stack.memory)
      (stack.step frame.location frame.regs stack.memory) (stack.machine.start frame.regs stack.memory)
      (stack.machine.fallback (is_first_frame frame.location) frame.regs stack.memory))

  -- the caller of a frame, or the end
  unfoldable pub next_of : Next Regs
  next_of =
      if is_in_trampoline stack.code frame.location then by_signal stack.machine stack.code frame
      else by_finding (stack.rows frame.location)

-- ---- backtraces

-- the frames and the end
pub record Backtrace (Regs : Type 0) : Type 0 where
  pub frames : List (FrameView Regs)
  pub end : BacktraceEnd

abbrev pub trace_view : {Regs : Type 0} → StackTrace Regs → Backtrace Regs
trace_view trace = record { frames = map frame_view trace.frames.items; end = trace.end }

-- a frame before the others
abbrev pub frame_before : {Regs : Type 0} → FrameView Regs → Backtrace Regs → Backtrace Regs
frame_before frame backtrace = record backtrace { frames = frame ∷ backtrace.frames }

-- from a caller on, or the end
abbrev pub onward : {Regs : Type 0} → (FrameView Regs → Backtrace Regs) → Next Regs → Backtrace Regs
onward callers (Ok frame) = frame_before frame (callers frame)
onward callers (Err end) = record { frames = []; end = end }

-- the callers of a frame, at most so many
unfoldable pub callers_of : {Regs : Type 0} → Stack Regs → ℕ → Option (FrameView Regs) → FrameView Regs → Backtrace Regs
callers_of stack zero callee frame = record { frames = []; end = Limit }
callers_of stack (suc n) callee frame = onward (callers_of stack n (Some frame)) (next_of stack callee frame)

-- the backtrace from a frame on, at most so many frames
unfoldable pub backtrace_of : {Regs : Type 0} → Stack Regs → ℕ → FrameView Regs → Backtrace Regs
backtrace_of stack zero frame = record { frames = []; end = Limit }
backtrace_of stack (suc n) frame = frame_before frame (callers_of stack n None frame)
