-- What C is told of the frame that called another, and of the words that the step from it will ask for.
use Rattle.std.specs.Prelude.{◌≡◌, ◌≤◌, ℕ, ℤ, Option, Some, None, Result, Ok, Err}
use Rattle.framehop.specs.CodeAddress.{FrameLocation, address_of}
use Rattle.framehop.specs.Iterator.{Next}
use Rattle.framehop.specs.Memory.{Memory}
use Rattle.framehop.specs.Outcome.{Outcome, refused, answer_of}
use Rattle.framehop_core.specs.declared.error.Error.{Error}
use Rattle.framehop_core.specs.declared.error.Error.TheVariants.{CouldNotReadStack}
use Rattle.framehop_lent.specs.Ahead.{zero_at}
use Rattle.framehop_lent.specs.Window.{unreadable_word}
use Rattle.framehop_c.specs.Status.{ok, end, return_address_is_null, status_of_error, unreadable_in}
use Rattle.framehop_c.specs.Lookups.{no_lookup, lookup_hit}
use Rattle.framehop_c.specs.declared.next.FramehopAhead.{FramehopAhead}
use Rattle.framehop_c.specs.declared.next.FramehopNext.{FramehopNext}

-- what a call for the next frame returned: its status, the address or 0, and the address of the word that could not be
-- read or 0
abbrev pub status_of_next : Result (Option FrameLocation) Error → ℤ
status_of_next (Ok (Some _)) = ok
status_of_next (Ok None) = end
status_of_next (Err error) = status_of_error error

abbrev pub address_in_next : Result (Option FrameLocation) Error → ℕ
address_in_next (Ok (Some location)) = address_of location
address_in_next (Ok None) = 0
address_in_next (Err _) = 0

abbrev pub unreadable_in_next : Result (Option FrameLocation) Error → ℕ
unreadable_in_next (Ok _) = 0
unreadable_in_next (Err error) = unreadable_in error

-- the next frame is told: its address or why there is none, and its registers
pub record IsToldNext {Regs : Type 0} (next : Next Regs) (status : ℤ) (told : FramehopNext) (regs : Regs) : Type 0 where
  pub ends : status ≡ status_of_next next.answer
  pub return_address : told.return_address ≡ address_in_next next.answer
  pub unreadable : told.unreadable ≡ unreadable_in_next next.answer
  pub registers : regs ≡ next.regs

-- no word is told
pub record TellsNoWord (told : FramehopAhead) : Type 0 where
  pub count : told.count ≡ 0
  pub first : told.first ≡ 0
  pub second : told.second ≡ 0

-- no word is told, and none was looked for
pub record IsNoAhead (told : FramehopAhead) : Type 0 where
  pub words : TellsNoWord told
  pub lookup : told.lookup ≡ no_lookup

-- nothing was looked for
pub record IsNoNext (told : FramehopNext) : Type 0 where
  pub return_address : told.return_address ≡ 0
  pub unreadable : told.unreadable ≡ 0
  pub lookup : told.lookup ≡ no_lookup
  pub ahead : IsNoAhead told.ahead

-- the call from the return address 0 is refused with -14
pub record IsNullNext (status : ℤ) (told : FramehopNext) : Type 0 where
  pub ends : status ≡ return_address_is_null
  pub tells : IsNoNext told

-- The words of which it is told that a step asks for them, as far as that can be told before one is read: it is refused
-- for the first one over a stack without words. Where the frame's rule is in the cache, it may be told of a second one, for
-- which it is refused over a stack with a 0 as the first. What is beyond their number is 0.
pub record IsAsked {Regs : Type 0} (step : Memory → Outcome Regs) (told : FramehopAhead) : Type 0 where
  pub few : told.count ≤ 2
  pub known : 2 ≤ told.count → told.lookup ≡ lookup_hit
  pub first : 1 ≤ told.count → step (zero_at None) ≡ refused (CouldNotReadStack told.first)
  pub second : 2 ≤ told.count → step (zero_at (Some told.first)) ≡ refused (CouldNotReadStack told.second)
  pub none : told.count ≡ 0 → TellsNoWord told
  pub one : told.count ≡ 1 → told.second ≡ 0

-- Where the frame's rule is in the cache, no word is left out that can be told so: where none is told, the step is refused for
-- no word over a stack without words; where only a first one is told, for none over a stack with a 0 as that one.
pub record LeavesOutNone {Regs : Type 0} (step : Memory → Outcome Regs) (told : FramehopAhead) : Type 0 where
  pub none : told.lookup ≡ lookup_hit → told.count ≡ 0 → unreadable_word (answer_of (step (zero_at None))) ≡ None
  pub one : told.lookup ≡ lookup_hit → told.count ≡ 1
      → unreadable_word (answer_of (step (zero_at (Some told.first)))) ≡ None

-- So it is over each stack where the frame's rule is in the cache: the step is refused for the first word where that
-- can't be read, and for the second one where that can't be read and the first one can.
pub record IsNeeded {Regs : Type 0} (step : Memory → Outcome Regs) (told : FramehopAhead) : Type 0 where
  pub first : told.lookup ≡ lookup_hit → 1 ≤ told.count → (memory : Memory) → memory told.first ≡ None
      → step memory ≡ refused (CouldNotReadStack told.first)
  pub second : 2 ≤ told.count → (memory : Memory) (word : ℕ) → memory told.first ≡ Some word → memory told.second ≡ None
      → step memory ≡ refused (CouldNotReadStack told.second)

-- Nor is another word needed there: where none is told, the step is refused for no word over each stack; where only a first
-- one is told, for none over each stack that has it.
pub record IsEnough {Regs : Type 0} (step : Memory → Outcome Regs) (told : FramehopAhead) : Type 0 where
  pub none : told.lookup ≡ lookup_hit → told.count ≡ 0 → (memory : Memory)
      → unreadable_word (answer_of (step memory)) ≡ None
  pub one : told.lookup ≡ lookup_hit → told.count ≡ 1 → (memory : Memory) (word : ℕ) → memory told.first ≡ Some word
      → unreadable_word (answer_of (step memory)) ≡ None
