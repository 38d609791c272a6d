-- The frames that notes are about: of each one its caller, by what its step returns.
use Rattle.std.specs.Prelude.{ℕ, zero, suc, ◌==◌, List, [], ◌∷◌, Option, Some, None, Result, Ok, Err, if◌then◌else◌}
use Rattle.framehop_core.specs.CodeAddress.{FrameLocation, at_return_address, location_of}
use Rattle.framehop_core.specs.Outcome.{Outcome, answer_of, registers_after}
use Rattle.framehop_core.specs.declared.code_address.FrameAddress.{FrameAddress}
use Rattle.framehop_core.specs.declared.error.Error.{Error}

-- a frame with its registers, by its location
abbrev pub located : {Regs : Type 0} → FrameAddress × Regs → FrameLocation × Regs
located frame = (location_of frame.0, frame.1)

-- the frame at the return address that a step returned, with the registers after it; 0 is no return address
abbrev pub caller_by : {Regs : Type 0} → Result (Option ℕ) Error → Regs → Option (FrameLocation × Regs)
caller_by (Ok (Some address)) regs = if address == 0 then None else Some (at_return_address address, regs)
caller_by (Ok None) regs = None
caller_by (Err error) regs = None

-- the frame that called another, by the step from that one
abbrev pub caller_of : {Regs : Type 0} → (FrameLocation → Regs → Outcome Regs) → FrameLocation × Regs
    → Option (FrameLocation × Regs)
caller_of step frame =
    caller_by (answer_of (step frame.0 frame.1)) (registers_after frame.1 (step frame.0 frame.1))

-- the frames of a walk with the registers in each: from this one on, if it is there, at most so many
abbrev pub frames_from : {Regs : Type 0} → (FrameLocation → Regs → Outcome Regs) → ℕ → Option (FrameLocation × Regs)
    → List (FrameLocation × Regs)
frames_from step zero frame = []
frames_from step (suc n) None = []
frames_from step (suc n) (Some frame) = frame ∷ frames_from step n (caller_of step frame)
