-- The stack of a thread at a time, by its values.
use Rattle.std.specs.Prelude.{ℕ, ◌+◌, Option, Some, None, List, map, length, codes}
use Rattle.framehop_core.specs.CodeAddress.{FrameLocation, location_of}
use Rattle.framehop_core.specs.Memory.{Memory}
use Rattle.framehop.specs.Modules.{ModuleView}
use Rattle.framehop_backtrace.specs.Backtrace.{Backtrace, FrameView}
use Rattle.framehop_backtrace.specs.Code.{Code, is_in_trampoline}
use Rattle.framehop_backtrace.specs.Rows.{Finding}
use Rattle.framehop_backtrace.specs.declared.frame.BacktraceEnd.{BacktraceEnd}
use Rattle.framehop_frames.specs.Line.{ShownFrame}
use Rattle.framehop_frames.specs.Missing.{end_of_walk}
use Rattle.framehop_frames.specs.Walker.{Walker, backtrace_from}
use Rattle.framehop_frames.specs.declared.machine.Start.{Start}
use Rattle.framehop_frames.specs.declared.stack.Stack.{Stack}
use Rattle.framehop_frames.specs.declared.stack.StackFrame.{StackFrame}

-- a frame by its values
abbrev pub shown_frame : {Regs : Type 0} → StackFrame Regs → ShownFrame
shown_frame frame =
    record { location = location_of frame.address; found = frame.found; is_trampoline = frame.is_trampoline }

-- that of a backtrace: the trampoline is known by the code
abbrev pub shown_of : {Regs : Type 0} → Code → FrameView Regs → ShownFrame
shown_of code frame =
    record { location = frame.location; found = frame.found; is_trampoline = is_in_trampoline code frame.location }

-- a stack: its frames and how its walk ended, or why there is none
pub data StackView : Type 0 where
  walked : List ShownFrame → BacktraceEnd → StackView
  no_stack : List ℕ → StackView

abbrev pub stack_view : {Regs : Type 0} → Stack Regs → StackView
stack_view stack = walked (map shown_frame stack.frames.items) stack.end

abbrev pub stack_of : {Regs : Type 0} → Code → Backtrace Regs → BacktraceEnd → StackView
stack_of code backtrace end = walked (map (shown_of code) backtrace.frames) end

-- the stack from the registers with which a walk begins, at most so many frames
abbrev pub stack_from : {Regs : Type 0} → Walker Regs → ℕ → List ModuleView → (FrameLocation → Finding) → Memory → Code → Start Regs
    → StackView
stack_from walker limit modules rows memory code start =
    let backtrace = backtrace_from walker limit modules rows memory code start in
    stack_of code backtrace (end_of_walk walker.machine rows memory backtrace)

-- the same, if there is one
abbrev pub option_stack_view : {Regs : Type 0} → Option (Stack Regs) → StackView
option_stack_view (Some stack) = stack_view stack
option_stack_view None = no_stack (codes "no-registers")

-- how many lines its block has: the head, one for each frame, the end of the walk, and a blank line
abbrev pub line_count : StackView → ℕ
line_count (walked frames end) = length frames + 3
line_count (no_stack why) = 3
