-- A set of the cache in memory, as its entries with the newest first.
use Rattle.std.specs.Prelude.{◌≡◌, ℕ, Bool, true, false, if◌then◌else◌, List, [], ◌∷◌, ◌++◌, find, Option, Some, None, ⊤}
use Rattle.framehop_cache.specs.Cache.{Key, Entry, key_of, same_key}
use Rattle.framehop_cache.specs.declared.rule_cache.CacheSet.{CacheSet}
use Rattle.framehop_cache.specs.declared.rule_cache.Slot.{Slot}
use Rattle.framehop_cache.specs.declared.rule_cache.SlotRule.{SlotRule}
use Rattle.framehop_cache.specs.declared.rule_cache.SlotRule.TheVariants.{Empty, FirstFrame, CallerFrame}

-- a rule of a first frame (`true`) or another, as a slot holds it
abbrev pub rule_in_slot : {R : Type 0} → Bool → R → SlotRule R
rule_in_slot is_first_frame rule = if is_first_frame then FirstFrame rule else CallerFrame rule

-- the entry in a slot of that address and generation, or none
abbrev pub entries_by : {R : Type 0} → ℕ → ℕ → SlotRule R → List (Entry R)
entries_by address generation Empty = []
entries_by address generation (FirstFrame rule) = record { key = key_of address generation true; rule = rule } ∷ []
entries_by address generation (CallerFrame rule) = record { key = key_of address generation false; rule = rule } ∷ []

abbrev pub entries_of_slot : {R : Type 0} → Slot R → List (Entry R)
entries_of_slot slot = entries_by slot.address slot.modules_generation slot.rule

-- the entries of a set
abbrev pub entries_of : {R : Type 0} → CacheSet R → List (Entry R)
entries_of set = entries_of_slot set.newest ++ entries_of_slot set.older

-- the rule of an entry that was found
abbrev pub rule_found : {R : Type 0} → Option (Entry R) → Option R
rule_found None = None
rule_found (Some entry) = Some entry.rule

-- the rule that is stored under a key, if there is one
abbrev pub rule_under : {R : Type 0} → Key → List (Entry R) → Option R
rule_under key entries = rule_found (find (λ entry. same_key entry.key key) entries)

-- the newest entry, if there is one, has another key
abbrev pub HasOtherNewest : {R : Type 0} → Key → List (Entry R) → Type 0
HasOtherNewest key [] = ⊤
HasOtherNewest key (entry ∷ entries) = same_key entry.key key ≡ false

-- the rules of all entries can be run
abbrev pub AllRun : {R : Type 0} → (R → Bool) → List (Entry R) → Type 0
AllRun executable [] = ⊤
AllRun executable (entry ∷ entries) = (executable entry.rule ≡ true) × AllRun executable entries

-- a second entry has another key than the first
abbrev pub HaveTwoKeys : {R : Type 0} → List (Entry R) → Type 0
HaveTwoKeys (newest ∷ older ∷ _) = same_key older.key newest.key ≡ false
HaveTwoKeys _ = ⊤

-- a set in memory: an older entry only where there is a newest one, of another key, and rules that can be run
pub record IsSet {R : Type 0} (executable : R → Bool) (set : CacheSet R) : Type 0 where
  pub filled : set.newest.rule ≡ Empty → set.older.rule ≡ Empty
  pub keys : HaveTwoKeys (entries_of set)
  pub run : AllRun executable (entries_of set)
