-- The frames of a stack, one at a time.
-- (framehop 0.16.0, `UnwindIterator::next`.)
use Rattle.framehop.specs.Walk.{Walk, End, at_root, at_refusal, at_limit, callers, walk_from, cache_after_callers, cache_after_walk}
use Rattle.std.specs.Prelude.{◌≡◌, ℕ, zero, suc, Bool, false, List, [], ◌∷◌, if◌then◌else◌, ◌==◌, Option, Some, None, Result, Ok, Err}
use Rattle.framehop_core.specs.Outcome.{Outcome, answered, root, refused}
use Rattle.framehop_core.specs.CodeAddress.{FrameLocation, at_instruction_pointer, at_return_address, address_of, is_first_frame, location_of}
use Rattle.framehop_core.specs.declared.code_address.FrameAddress.{FrameAddress}
use Rattle.framehop_core.specs.declared.error.Error.{Error}
use Rattle.framehop_core.specs.declared.error.Error.TheVariants.{ReturnAddressIsNull}
use Rattle.framehop.specs.declared.iterator.UnwindIteratorState.{UnwindIteratorState}
use Rattle.framehop.specs.declared.iterator.UnwindIteratorState.TheVariants.{Initial, Unwinding, Done}

-- how far an iterator has come: before the frame at its instruction pointer, at a frame, or at the end
pub data Progress : Type 0 where
  before : ℕ → Progress
  at_frame : FrameLocation → Progress
  at_end : Progress

abbrev pub progress_of : UnwindIteratorState → Progress
progress_of (Initial pc) = before pc
progress_of (Unwinding address) = at_frame (location_of address)
progress_of Done = at_end

-- an answer with the location of its frame
abbrev pub location_option : Option FrameAddress → Option FrameLocation
location_option (Some address) = Some (location_of address)
location_option None = None

abbrev pub location_answer : Result (Option FrameAddress) Error → Result (Option FrameLocation) Error
location_answer (Ok frame) = Ok (location_option frame)
location_answer (Err error) = Err error

-- what one call answers, and what it leaves
pub record Next (Regs : Type 0) : Type 0 where
  pub answer : Result (Option FrameLocation) Error
  pub progress : Progress
  pub regs : Regs

-- the call at a frame, by the outcome of its step over the registers that it found: after a refusal it is at the same
-- frame, and the return address 0 is refused with the caller's registers
abbrev pub next_after : {Regs : Type 0} → FrameLocation → Regs → Outcome Regs → Next Regs
next_after location old (answered address new) =
    if address == 0 then record { answer = Err ReturnAddressIsNull; progress = at_frame location; regs = new }
    else record {
      answer = Ok (Some (at_return_address address));
      progress = at_frame
          (at_return_address address);
      regs = new;
    }
next_after location old root = record { answer = Ok None; progress = at_end; regs = old }
next_after location old (refused error) = record { answer = Err error; progress = at_frame location; regs = old }

-- the next call
abbrev pub next_of : {Regs : Type 0} → (FrameLocation → Regs → Outcome Regs) → Progress → Regs → Next Regs
next_of step (before pc) regs =
    record {
      answer = Ok (Some (at_instruction_pointer pc));
      progress = at_frame
          (at_instruction_pointer pc);
      regs = regs;
    }
next_of step (at_frame location) regs = next_after location regs (step location regs)
next_of step at_end regs = record { answer = Ok None; progress = at_end; regs = regs }

-- A call that answers a frame, whatever the callback replies: the first one is the frame at the instruction pointer,
-- with the registers as they are, and any other one a caller's, to which the registers have advanced.
abbrev pub Moves : {Regs : Type 0} → (Bool → Regs → Regs → Type 0) → Progress → Regs → FrameLocation → Regs → Type 0
Moves advances (before pc) old location new = (location ≡ at_instruction_pointer pc) × (new ≡ old)
Moves advances (at_frame callee) old location new =
    (is_first_frame location ≡ false) × advances (is_first_frame callee) old new
Moves advances at_end old location new = ⊥

-- A call that answers a caller's frame: its step is what the source of its rule means.
abbrev pub MeansNext : {Regs : Type 0} → (FrameLocation → Regs → ℕ → Regs → Type 0) → Progress → Regs → FrameLocation
    → Regs → Type 0
MeansNext Means (before pc) old location new = Unit {0}
MeansNext Means (at_frame callee) old location new = Means callee old (address_of location) new
MeansNext Means at_end old location new = Unit {0}

-- the iterator is at a frame, and its location meets a condition
abbrev pub AtFrame : (FrameLocation → Type 0) → Progress → Type 0
AtFrame Holds (before pc) = ⊥
AtFrame Holds (at_frame location) = Holds location
AtFrame Holds at_end = ⊥

-- the answers that need no step: the frame at the instruction pointer, and none after the end
abbrev pub NeedsNoStep : Progress → Result (Option FrameLocation) Error → Type 0
NeedsNoStep (before pc) answer = answer ≡ Ok (Some (at_instruction_pointer pc))
NeedsNoStep (at_frame location) answer = Unit {0}
NeedsNoStep at_end answer = answer ≡ Ok None

-- the cache after the next call
abbrev pub cache_after_next : {Cache : Type 0} → (Cache → FrameLocation → Cache) → Progress → Cache → Cache
cache_after_next cache_after (before pc) cache = cache
cache_after_next cache_after (at_frame location) cache = cache_after cache location
cache_after_next cache_after at_end cache = cache

-- the frames of an answer, one or none
abbrev pub frames_in : Result (Option FrameLocation) Error → List FrameLocation
frames_in (Ok (Some location)) = location ∷ []
frames_in (Ok None) = []
frames_in (Err error) = []

-- how it ends a walk, if it does
abbrev pub end_in : Result (Option FrameLocation) Error → Option End
end_in (Ok (Some location)) = None
end_in (Ok None) = Some at_root
end_in (Err error) = Some (at_refusal error)

-- the end of at most so many calls after the end of a walk
abbrev pub end_after : ℕ → End
end_after zero = at_limit
end_after (suc n) = at_root

-- the walk of at most so many further calls
abbrev pub walk_on : {Regs : Type 0} → (FrameLocation → Regs → Outcome Regs) → ℕ → Progress → Regs → Walk Regs
walk_on step n (before pc) regs = walk_from step n pc regs
walk_on step n (at_frame location) regs = callers step n location regs
walk_on step n at_end regs = record { frames = []; end = end_after n; regs = regs }

-- the cache after it
abbrev pub cache_on : {Regs Cache : Type 0} → (FrameLocation → Regs → Outcome Regs) → (Cache → FrameLocation → Cache)
    → ℕ → Progress → Regs → Cache → Cache
cache_on step cache_after n (before pc) regs cache = cache_after_walk step cache_after n pc regs cache
cache_on step cache_after n (at_frame location) regs cache = cache_after_callers step cache_after n location regs cache
cache_on step cache_after n at_end regs cache = cache
