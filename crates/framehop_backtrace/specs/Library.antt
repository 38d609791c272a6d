-- Where a backtrace is the library's walk.
use Rattle.std.specs.Prelude.{◌≡◌, ℕ, zero, suc, true, false, ⊤, ◌⊎◌, map, List, Option, None}
use Rattle.framehop_core.specs.CodeAddress.{FrameLocation, address_of, at_instruction_pointer, at_return_address, is_first_frame}
use Rattle.framehop_core.specs.Outcome.{Outcome, answered, root, refused}
use Rattle.framehop.specs.Walk.{Walk, End, at_root, at_refusal, at_limit, walk_from}
use Rattle.framehop_backtrace.specs.Code.{Code, is_in_trampoline, is_in_code, is_outside_code}
use Rattle.framehop_backtrace.specs.Rows.{Finding, by_row, uncovered, no_row}
use Rattle.framehop_backtrace.specs.Backtrace.{Stack, FrameView, Backtrace, run_source}
use Rattle.framehop_backtrace.specs.declared.frame.BacktraceEnd.{BacktraceEnd}
use Rattle.framehop_backtrace.specs.declared.frame.BacktraceEnd.TheVariants.{Root, FramePointerZero, Limit, Refused}

-- no run of a frame's code comes to a caller, whatever is known of its registers
abbrev pub IsWithoutRun : {Regs : Type 0} → Stack Regs → FrameLocation → Type 0
IsWithoutRun stack location =
    (columns : List (Option ℕ))
    → stack.machine.run (run_source stack.machine.convention stack.memory stack.code stack.covers) (address_of location) columns ≡ None

-- a frame has no row, no run comes to its caller, and no guess is made: it is no first frame outside of code, or one
-- that call frames of its module do not cover
abbrev pub IsWithoutRow : {Regs : Type 0} → Stack Regs → FrameLocation → Finding → Type 0
IsWithoutRow stack location no_row = is_outside_code stack.code location ≡ false
IsWithoutRow stack location uncovered = (is_first_frame location ≡ false) × IsWithoutRun stack location
IsWithoutRow stack location (by_row section row) = ⊥

-- after a step: a return address is 0, or in code and this holds there
abbrev pub AfterStep : {Regs : Type 0} → Stack Regs → (FrameLocation → Regs → Type 0) → Outcome Regs → Type 0
AfterStep stack Holds (answered address new) =
    (address ≡ 0) ⊎ ((is_in_code stack.code address ≡ true) × Holds (at_return_address address) new)
AfterStep stack Holds root = ⊤
AfterStep stack Holds (refused error) = ⊤

-- In the library's walk of so many steps from a frame on, none is in a trampoline or has a row, no run and no guess is
-- made, and each return address is in code.
abbrev pub IsPlain : {Regs : Type 0} → Stack Regs → ℕ → FrameLocation → Regs → Type 0
IsPlain stack zero location regs = ⊤
IsPlain stack (suc n) location regs =
    (is_in_trampoline stack.code location ≡ false) × IsWithoutRow stack location (stack.rows location)
    × AfterStep stack (IsPlain stack n) (stack.step location regs stack.memory)

-- the same of a walk of at most so many frames
abbrev pub IsPlainWalk : {Regs : Type 0} → Stack Regs → ℕ → FrameLocation → Regs → Type 0
IsPlainWalk stack zero location regs = ⊤
IsPlainWalk stack (suc n) location regs = IsPlain stack n location regs

-- A backtrace ends as a walk does: a step by a frame pointer of 0 has no caller, by whatever the library refuses it, and
-- is a root where a process begins.
abbrev pub EndsAs : Code → End → BacktraceEnd → Type 0
EndsAs code at_root end = (end ≡ Root) ⊎ (end ≡ FramePointerZero)
EndsAs code (at_refusal error) end =
    (end ≡ Refused error) ⊎ ((end ≡ FramePointerZero) ⊎ (((address : ℕ) × (code.is_entry address ≡ true)) × (end ≡ Root)))
EndsAs code at_limit end = end ≡ Limit

-- the backtrace has the frames of the walk, and ends as that does
pub record IsWalk {Regs : Type 0} (code : Code) (walk : Walk Regs) (backtrace : Backtrace Regs) : Type 0 where
  pub frames : map (λ (frame : FrameView Regs). frame.location) backtrace.frames ≡ walk.frames
  pub end : EndsAs code walk.end backtrace.end

-- the library's walk from an instruction pointer on
abbrev pub walk_of : {Regs : Type 0} → Stack Regs → ℕ → ℕ → Regs → Walk Regs
walk_of stack limit pc regs = walk_from (λ location before. stack.step location before stack.memory) limit pc regs

-- From a first frame on whose registers are known, the backtrace is the library's walk, if that is plain.
abbrev pub IsLibraryWalk : {Regs : Type 0} → Stack Regs → ℕ → FrameView Regs → Backtrace Regs → Type 0
IsLibraryWalk stack limit first backtrace =
    (pc : ℕ) → first.location ≡ at_instruction_pointer pc → stack.machine.can_step first.columns ≡ true
    → IsPlainWalk stack limit first.location first.regs → IsWalk stack.code (walk_of stack limit pc first.regs) backtrace
