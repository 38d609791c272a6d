-- When a cache that other steps have filled changes no answer.
use Rattle.std.specs.Prelude.{◌≡◌, ◌≢◌, ℕ, ◌-◌, Bool, ◌⊎◌, true, List, [], ◌∷◌, Some}
use Rattle.framehop_core.specs.CodeAddress.{FrameLocation, lookup_address, is_first_frame}
use Rattle.framehop_cache.specs.Cache.{Key, Entry, Sets, CacheView, Found, hit, empty_slot, wrong_modules, wrong_address, found, counted, inserted, ways}
use Rattle.framehop.specs.Answer.{Fresh, by_rule, direct}
use Rattle.framehop.specs.Unwinding.{Unwinding}
use Rattle.framehop.specs.Fresh.{fresh}
use Rattle.framehop.specs.Modules.{ModuleView, UnwinderView, covering}

-- the entry is one of the list
abbrev pub Among : {A : Type 0} → A → List A → Type 0
Among x [] = ⊥
Among x (y ∷ ys) = (y ≡ x) ⊎ Among x ys

-- the entry is stored in one of the sets
abbrev pub Stands : {R : Type 0} → Entry R → Sets R → Type 0
Stands entry [] = ⊥
Stands entry (set ∷ sets) = Among entry set ⊎ Stands entry sets

-- the entry is what the unwinder's modules give for its address and kind, and has their generation
pub record IsFresh {R Regs : Type 0} (unwinding : Unwinding R Regs) (unwinder : UnwinderView)
    (entry : Entry R) : Type 0 where
  pub generation : entry.key.generation ≡ unwinder.generation
  pub rule : fresh unwinding unwinder.modules entry.key.address entry.key.is_first_frame ≡ by_rule entry.rule

-- A cache is sound for an unwinder: each entry of the unwinder's generation is what its modules give afresh.
pub record IsSound {R Regs : Type 0} (unwinding : Unwinding R Regs) (unwinder : UnwinderView)
    (sets : Sets R) : Type 0 where
  pub each : (entry : Entry R) → Stands entry sets → entry.key.generation ≡ unwinder.generation
      → IsFresh unwinding unwinder entry

-- each entry was stored before, or is what the unwinder's modules give afresh, under their generation
pub record Extends {R Regs : Type 0} (unwinding : Unwinding R Regs) (unwinder : UnwinderView)
    (old new : Sets R) : Type 0 where
  pub each : (entry : Entry R) → Stands entry new → Stands entry old ⊎ IsFresh unwinding unwinder entry

-- unwinders of one generation have the same modules
abbrev pub AreApart : UnwinderView → UnwinderView → Type 0
AreApart unwinder other = unwinder.generation ≡ other.generation → unwinder.modules ≡ other.modules

-- the key of the unwinder's frame at a location
abbrev pub key_of : UnwinderView → FrameLocation → Key
key_of unwinder location = record {
  address = lookup_address location;
  generation = unwinder.generation;
  is_first_frame = is_first_frame location;
}

-- the sets after a miss: one insert exactly where the modules give a rule
abbrev pub sets_after_miss : {R Regs : Type 0} → Sets R → Key → Fresh R Regs → Sets R
sets_after_miss sets key (by_rule rule) = inserted ways sets (record { key = key; rule = rule })
sets_after_miss sets key (direct _) = sets

-- the sets after a lookup that found this: unchanged where it hit
abbrev pub sets_after : {R Regs : Type 0} → Sets R → Key → Found R → Fresh R Regs → Sets R
sets_after sets key (hit _) answer = sets
sets_after sets key empty_slot answer = sets_after_miss sets key answer
sets_after sets key wrong_modules answer = sets_after_miss sets key answer
sets_after sets key wrong_address answer = sets_after_miss sets key answer

-- the cache after a step at a location: one lookup, counted, and at most one insert
unfoldable pub cache_after : {R Regs : Type 0} → Unwinding R Regs → UnwinderView → CacheView R → FrameLocation
    → CacheView R
cache_after unwinding unwinder cache location =
    let key = key_of unwinder location in
    let seen = found ways cache.sets key in
    record {
      sets =
          sets_after cache.sets key seen (fresh unwinding unwinder.modules (lookup_address location)
          (is_first_frame location));
      stats = counted cache.stats seen;
    }

-- the cache after a step at a location that ran out of memory: one lookup, counted
unfoldable pub cache_after_lookup : {R : Type 0} → UnwinderView → CacheView R → FrameLocation → CacheView R
cache_after_lookup unwinder cache location =
    record cache { stats = counted cache.stats (found ways cache.sets (key_of unwinder location)) }

-- reading what the covering module has for an address may take memory
pub record MayTakeMemory {R Regs : Type 0} (unwinding : Unwinding R Regs) (modules : List ModuleView)
    (address : ℕ) (first : Bool) : Type 0 where
  pub covered_by : ModuleView
  pub covers : covering modules address ≡ Some covered_by
  pub may : unwinding.may_take_memory covered_by (address - covered_by.base_avma) first ≡ true

-- A step at a location can run out of memory: its rule is not in the cache, and reading what the covering module has
-- for the address may take memory.
pub record MayRunOut {R Regs : Type 0} (unwinding : Unwinding R Regs) (unwinder : UnwinderView) (cache : CacheView R)
    (location : FrameLocation) : Type 0 where
  pub missed : (rule : R) → found ways cache.sets (key_of unwinder location) ≢ hit rule
  pub may : MayTakeMemory unwinding unwinder.modules (lookup_address location) (is_first_frame location)
