-- The cache of unwind rules: sets of entries that are found by key (framehop 0.16.0, `RuleCache`; the kind of frame
-- belongs to the key here).
-- Two entries in a set are this project's.
use Rattle.std.specs.Prelude.{ℕ, ◌+◌, ◌-◌, ◌^◌, ◌%◌, Bool, not, ◌&&◌, ◌==◌, nat_lt, if◌then◌else◌, min, List, [], ◌∷◌, length, take, filter, find, slice_index_or, slice_set, replicate, Option, Some, None}
use Rattle.std.specs.List.{list_any}
use mathlib.Core.Bool.{beq}
use Rattle.framehop_cache.specs.declared.rule_cache.CacheStats.{CacheStats}

-- what a rule is stored under: the lookup address (AVMA), the generation of the unwinder's modules, and whether the
-- frame is a first one
pub record Key : Type 0 where
  pub address : ℕ
  pub generation : ℕ
  pub is_first_frame : Bool

-- the key of these
abbrev pub key_of : (address generation : ℕ) → (is_first_frame : Bool) → Key
key_of address generation is_first_frame =
    record { address = address; generation = generation; is_first_frame = is_first_frame }

-- a stored rule
pub record Entry (R : Type 0) : Type 0 where
  pub key : Key
  pub rule : R

-- the sets, each a list of entries with the newest first
abbrev pub Sets : Type 0 → Type 0
Sets R = List (List (Entry R))

-- a cache: its sets, and the counts of its lookups
pub record CacheView (R : Type 0) : Type 0 where
  pub sets : Sets R
  pub stats : CacheStats

-- the two keys are the same
abbrev pub same_key : Key → Key → Bool
same_key a b = (a.address == b.address) && (a.generation == b.generation) && beq a.is_first_frame b.is_first_frame

-- how many sets there are (framehop 0.16.0, documentation of `RuleCache`)
abbrev pub set_count : ℕ
set_count = 509

-- the number of the set in which an address has its entries
abbrev pub set_number : ℕ → ℕ
set_number address = address % set_count

-- the set in which an address has its entries
abbrev pub set_of : {R : Type 0} → Sets R → ℕ → List (Entry R)
set_of sets address = slice_index_or sets (set_number address) []

-- what a lookup finds
pub data Found (R : Type 0) : Type 0 where
  hit : R → Found R
  empty_slot : Found R
  wrong_modules : Found R
  wrong_address : Found R

-- a hit where there is an entry, else the other answer
abbrev pub hit_or : {R : Type 0} → Option (Entry R) → Found R → Found R
hit_or (Some entry) other = hit entry.rule
hit_or None other = other

-- A lookup in a set of so many ways: a hit where the key is stored; else an empty slot where the set has room; else
-- wrong modules where no entry has the generation; else a wrong address.
abbrev pub found_in : {R : Type 0} → ℕ → List (Entry R) → Key → Found R
found_in ways set key =
    hit_or (find (λ entry. same_key entry.key key) set)
    (if nat_lt (length set) ways then empty_slot
    else (if list_any (λ entry. entry.key.generation == key.generation) set then wrong_address
    else wrong_modules))

-- a lookup in the sets
abbrev pub found : {R : Type 0} → ℕ → Sets R → Key → Found R
found ways sets key = found_in ways (set_of sets key.address) key

-- an insert into a set: an entry of the same key is dropped, the new one comes first, and so many ways are kept
abbrev pub inserted_in : {R : Type 0} → ℕ → Entry R → List (Entry R) → List (Entry R)
inserted_in ways entry set = take ways (entry ∷ filter (λ other. not (same_key other.key entry.key)) set)

-- an insert into the sets
abbrev pub inserted : {R : Type 0} → ℕ → Sets R → Entry R → Sets R
inserted ways sets entry =
    slice_set sets (set_number entry.key.address) (inserted_in ways entry (set_of sets entry.key.address))

-- one more, short of the largest `u64`
abbrev pub one_more : ℕ → ℕ
one_more count = min (count + 1) (2 ^ 64 - 1)

-- the counts after a lookup that found this
abbrev pub counted : {R : Type 0} → CacheStats → Found R → CacheStats
counted stats (hit _) = record stats { hit_count = one_more stats.hit_count }
counted stats empty_slot = record stats { miss_empty_slot_count = one_more stats.miss_empty_slot_count }
counted stats wrong_modules = record stats { miss_wrong_modules_count = one_more stats.miss_wrong_modules_count }
counted stats wrong_address = record stats { miss_wrong_address_count = one_more stats.miss_wrong_address_count }

-- how many lookups missed, and how many there were, short of the largest `u64`
abbrev pub misses_of : CacheStats → ℕ
misses_of stats =
    min (stats.miss_empty_slot_count + stats.miss_wrong_modules_count + stats.miss_wrong_address_count) (2 ^ 64 - 1)

abbrev pub total_of : CacheStats → ℕ
total_of stats = min (stats.hit_count + misses_of stats) (2 ^ 64 - 1)

-- how many entries a set holds
abbrev pub ways : ℕ
ways = 2

-- a cache as it is made
abbrev pub no_stats : CacheStats
no_stats =
    record { hit_count = 0; miss_empty_slot_count = 0; miss_wrong_modules_count = 0; miss_wrong_address_count = 0 }

abbrev pub empty_cache : {R : Type 0} → CacheView R
empty_cache = record { sets = replicate set_count []; stats = no_stats }
