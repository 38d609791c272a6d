-- What C is told of a walk and of a step, and what it tells of a frame and of a module.
use Rattle.std.specs.Prelude.{◌≡◌, ◌≢◌, ◌⊎◌, ℕ, ℤ, Bool, true, false, ◌==◌, List, [], map, length, take}
use Rattle.framehop.specs.CodeAddress.{FrameLocation, at_instruction_pointer, at_return_address, address_of}
use Rattle.framehop.specs.Outcome.{Outcome, answer_of, registers_after}
use Rattle.framehop.specs.Walk.{Walk, callers}
use Rattle.framehop.specs.Modules.{ModuleView}
use Rattle.framehop.specs.ModuleData.{unwind_data_in}
use Rattle.framehop_c.specs.Status.{missing_word, out_of_memory, return_address_is_null, status_of_end, unreadable_at, status_of_answer, address_in, unreadable_after}
use Rattle.framehop_c.specs.Sections.{table_in}
use Rattle.framehop_c.specs.declared.calls.FramehopWalk.{FramehopWalk}
use Rattle.framehop_cache.specs.declared.rule_cache.CacheStats.{CacheStats}
use Rattle.framehop_c.specs.declared.calls.FramehopCacheStats.{FramehopCacheStats}
use Rattle.framehop_c.specs.declared.calls.FramehopStep.{FramehopStep}
use Rattle.framehop_c.specs.declared.sections.FramehopSections.{FramehopSections}

-- the whole of a walk is told: its frames' addresses, its end, and the registers there
pub record IsToldWalk {Regs : Type 0} (walk : Walk Regs) (status : ℤ) (told : FramehopWalk) (frames : List ℕ)
    (regs : Regs) : Type 0 where
  pub counted : told.frame_count ≡ length walk.frames
  pub addresses : take told.frame_count frames ≡ map address_of walk.frames
  pub ends : status ≡ status_of_end walk.end
  pub unreadable : told.unreadable ≡ unreadable_at walk.end
  pub registers : regs ≡ walk.regs

-- part of a walk is told: the addresses of its first frames, and the registers at the last of them
pub record IsToldPart {Regs : Type 0} (walk : Walk Regs) (told : FramehopWalk) (frames : List ℕ) (regs : Regs)
    : Type 0 where
  pub counted : told.frame_count ≡ length walk.frames
  pub addresses : take told.frame_count frames ≡ map address_of walk.frames
  pub registers : regs ≡ walk.regs

-- the callers of a frame are told: all of them, or the first ones, where a word is missing or memory has run out
pub record IsToldUpTo {Regs : Type 0} (step : FrameLocation → Regs → Outcome Regs) (limit : ℕ) (location : FrameLocation)
    (old : Regs) (status : ℤ) (told : FramehopWalk) (frames : List ℕ) (new : Regs) : Type 0 where
  pub whole : status ≢ missing_word → status ≢ out_of_memory
      → IsToldWalk (callers step limit location old) status told frames new
  pub part : (status ≡ missing_word) ⊎ (status ≡ out_of_memory)
      → IsToldPart (callers step told.frame_count location old) told frames new

-- the whole of a step is told: what it returned, and the registers after it
pub record IsToldStep {Regs : Type 0} (outcome : Outcome Regs) (status : ℤ) (told : FramehopStep) (old new : Regs)
    : Type 0 where
  pub ends : status ≡ status_of_answer (answer_of outcome)
  pub return_address : told.return_address ≡ address_in (answer_of outcome)
  pub unreadable : told.unreadable ≡ unreadable_after (answer_of outcome)
  pub registers : new ≡ registers_after old outcome

-- the counts of a cache are told
pub record IsStats (told : FramehopCacheStats) (stats : CacheStats) : Type 0 where
  pub hits : told.hit_count ≡ stats.hit_count
  pub empty_slots : told.miss_empty_slot_count ≡ stats.miss_empty_slot_count
  pub wrong_modules : told.miss_wrong_modules_count ≡ stats.miss_wrong_modules_count
  pub wrong_addresses : told.miss_wrong_address_count ≡ stats.miss_wrong_address_count

-- no address is told
pub record IsNothing (told : FramehopStep) : Type 0 where
  pub return_address : told.return_address ≡ 0
  pub unreadable : told.unreadable ≡ 0
  pub missing : told.has_missing ≡ false

-- the step from the return address 0 is refused with -14
pub record IsNullStep (status : ℤ) (told : FramehopStep) : Type 0 where
  pub ends : status ≡ return_address_is_null
  pub tells : IsNothing told

-- the walk from the return address 0 is refused with -14
pub record IsNullWalk (status : ℤ) (told : FramehopWalk) : Type 0 where
  pub ends : status ≡ return_address_is_null
  pub counted : told.frame_count ≡ 0
  pub unreadable : told.unreadable ≡ 0

-- the location of a frame
abbrev pub location_at : ℕ → Bool → FrameLocation
location_at address true = at_return_address address
location_at address false = at_instruction_pointer address

-- a return address that is 0
abbrev pub is_null_return : ℕ → Bool → Bool
is_null_return address true = address == 0
is_null_return address false = false

-- the module without a name of these addresses and sections
abbrev pub module_of : ℕ → ℕ → ℕ → FramehopSections → ModuleView
module_of start end base_avma sections = record {
  name = [];
  start = start;
  end = end;
  base_avma = base_avma;
  unwind_data = unwind_data_in (λ bytes. bytes.now) (table_in sections);
}
