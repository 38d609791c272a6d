-- A walk as it is written into a list of addresses.
use Rattle.std.specs.Prelude.{◌≡◌, ◌≢◌, ⊤, ℕ, List, [], map, length, take, Some, None, Result, Ok, Err}
use Rattle.framehop.specs.CodeAddress.{FrameLocation, address_of, location_of}
use Rattle.framehop.specs.Outcome.{Outcome}
use Rattle.framehop.specs.Walk.{Walk, callers}
use Rattle.framehop.specs.Iterator.{Next, at_frame, end_in, frames_in}
use Rattle.framehop.specs.SessionView.{end_of}
use Rattle.framehop.specs.declared.walk.WalkEnd.{WalkEnd}
use Rattle.framehop.specs.declared.walk.WalkEnd.TheVariants.{Refused, Limit}
use Rattle.framehop_core.specs.declared.code_address.FrameAddress.{FrameAddress}
use Rattle.framehop_core.specs.declared.error.Error.TheVariants.{OutOfMemory}
use Rattle.framehop_lent.specs.Window.{told_in}
use Rattle.framehop_lent.specs.declared.window.Window.{Window}
use Rattle.framehop_lent.specs.declared.walk.WalkStop.{WalkStop}
use Rattle.framehop_lent.specs.declared.walk.WalkStop.TheVariants.{Ended, Missing}

-- the first addresses of the list are those of the walk's first frames
abbrev pub BeginsWalk : {Regs : Type 0} → Walk Regs → ℕ → List ℕ → Type 0
BeginsWalk walk count frames = take count frames ≡ take count (map address_of walk.frames)

-- they are those of all its frames, and the end and the registers are the walk's
pub record IsWrittenWalk {Regs : Type 0} (walk : Walk Regs) (count : ℕ) (frames : List ℕ) (end : WalkEnd) (regs : Regs)
    : Type 0 where
  pub counted : count ≡ length walk.frames
  pub addresses : take count frames ≡ map address_of walk.frames
  pub ends : end_of end ≡ walk.end
  pub registers : regs ≡ walk.regs

-- where a word is missing, no window tells of it
abbrev pub IsUntold : List Window → WalkStop → Type 0
IsUntold windows (Missing address) = told_in windows address ≡ None
IsUntold windows (Ended end) = ⊤

-- a fact that holds where the walk has ended, and memory has not run out
abbrev pub WhereEnded : WalkStop → (WalkEnd → Type 0) → Type 0
WhereEnded (Missing address) Holds = ⊤
WhereEnded (Ended end) Holds = end ≢ Refused OutOfMemory → Holds end

-- the caller that one call of the iterator finds, or the end of the walk
abbrev pub IsCallerOrEnd : {Regs : Type 0} → Next Regs → Result FrameAddress WalkStop → Regs → Type 0
IsCallerOrEnd next (Ok caller) regs =
    (next.answer ≡ Ok (Some (location_of caller))) × (next.progress ≡ at_frame (location_of caller)) × (regs ≡ next.regs)
IsCallerOrEnd next (Err stop) regs =
    WhereEnded stop (λ end. (end_in next.answer ≡ Some (end_of end)) × (frames_in next.answer ≡ []) × (regs ≡ next.regs))

-- The callers of a frame are written up to where the walk has stopped: where it has ended, they are all that there are,
-- with the end and the registers there; where a word is missing or memory has run out, they are the first so many, with
-- the registers of the last.
abbrev pub IsWrittenUpTo : {Regs : Type 0} → (FrameLocation → Regs → Outcome Regs) → ℕ → FrameLocation → Regs → ℕ
    → List ℕ → WalkStop → Regs → Type 0
IsWrittenUpTo step limit location old count frames (Missing address) new =
    IsWrittenWalk (callers step count location old) count frames Limit new
IsWrittenUpTo step limit location old count frames (Ended end) new =
    (end ≡ Refused OutOfMemory → IsWrittenWalk (callers step count location old) count frames Limit new)
    × (end ≢ Refused OutOfMemory → IsWrittenWalk (callers step limit location old) count frames end new)
