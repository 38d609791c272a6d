-- A walk: the steps from a frame to the root of its stack, or to the first refusal, or to a limit.
-- (framehop 0.16.0, `UnwindIterator`.)
use Rattle.std.specs.Prelude.{ℕ, zero, suc, if◌then◌else◌, ◌==◌, List, [], ◌∷◌}
use Rattle.framehop_core.specs.Outcome.{Outcome, answered, root, refused}
use Rattle.framehop_core.specs.CodeAddress.{FrameLocation, at_instruction_pointer, at_return_address}
use Rattle.framehop_core.specs.declared.error.Error.{Error}
use Rattle.framehop_core.specs.declared.error.Error.TheVariants.{ReturnAddressIsNull}

-- how a walk ends
pub data End : Type 0 where
  at_root : End
  at_refusal : Error → End
  at_limit : End

-- a walk: its frames, its end, and the registers there
pub record Walk (Regs : Type 0) : Type 0 where
  pub frames : List FrameLocation
  pub end : End
  pub regs : Regs

-- one frame, then the others
abbrev pub frame_before : {Regs : Type 0} → FrameLocation → Walk Regs → Walk Regs
frame_before location walk = record walk { frames = location ∷ walk.frames }

-- a step's outcome over the registers that it found, then the walk from the caller's frame on; the return address 0 is
-- refused, with the caller's registers
abbrev pub onward : {Regs : Type 0} → (FrameLocation → Regs → Walk Regs) → Regs → Outcome Regs → Walk Regs
onward next old (answered address new) =
    if address == 0 then record { frames = []; end = at_refusal ReturnAddressIsNull; regs = new }
    else frame_before (at_return_address address) (next (at_return_address address) new)
onward next old root = record { frames = []; end = at_root; regs = old }
onward next old (refused error) = record { frames = []; end = at_refusal error; regs = old }

-- the frames after that at a location, by at most so many steps
unfoldable pub callers : {Regs : Type 0} → (FrameLocation → Regs → Outcome Regs) → ℕ → FrameLocation → Regs → Walk Regs
callers step zero location regs = record { frames = []; end = at_limit; regs = regs }
callers step (suc n) location regs = onward (callers step n) regs (step location regs)

-- the walk of at most so many frames, from the one at the instruction pointer on
unfoldable pub walk_from : {Regs : Type 0} → (FrameLocation → Regs → Outcome Regs) → ℕ → ℕ → Regs → Walk Regs
walk_from step zero pc regs = record { frames = []; end = at_limit; regs = regs }
walk_from step (suc n) pc regs =
    frame_before (at_instruction_pointer pc) (callers step n (at_instruction_pointer pc) regs)

-- the cache after the steps of a walk, each of which looks up one frame; `next` is the cache after the steps from the
-- caller's frame on
abbrev pub onward_cache : {Regs Cache : Type 0} → (FrameLocation → Regs → Cache) → Cache → Outcome Regs → Cache
onward_cache next cache (answered address new) = if address == 0 then cache else next (at_return_address address) new
onward_cache next cache root = cache
onward_cache next cache (refused error) = cache

unfoldable pub cache_after_callers : {Regs Cache : Type 0} → (FrameLocation → Regs → Outcome Regs)
    → (Cache → FrameLocation → Cache) → ℕ → FrameLocation → Regs → Cache → Cache
cache_after_callers step cache_after zero location regs cache = cache
cache_after_callers step cache_after (suc n) location regs cache =
    onward_cache (λ caller new. cache_after_callers step cache_after n caller new (cache_after cache location))
    (cache_after cache location) (step location regs)

unfoldable pub cache_after_walk : {Regs Cache : Type 0} → (FrameLocation → Regs → Outcome Regs)
    → (Cache → FrameLocation → Cache) → ℕ → ℕ → Regs → Cache → Cache
cache_after_walk step cache_after zero pc regs cache = cache
cache_after_walk step cache_after (suc n) pc regs cache =
    cache_after_callers step cache_after n (at_instruction_pointer pc) regs cache
