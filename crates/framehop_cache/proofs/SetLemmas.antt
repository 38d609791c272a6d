-- The sets of the cache in memory, seen as lists of entries.
use Rattle.std.proofs.Common.{◌≡◌, ◌==◌, true, ℕ, zero, suc, ◌<◌, List, [], ◌∷◌, map, Option, Some, None, length, get_or, refl, ap, rules, slice_set}
use Rattle.std.proofs.lemmas.List.{get_or-map}
use Rattle.framehop_cache.specs.Cache.{Key, Entry, Found, hit, empty_slot, wrong_modules, wrong_address, hit_or, found_in, ways}
use Rattle.framehop_cache.specs.CacheResult.{result_of, rule_of}
use Rattle.framehop_cache.specs.CacheSet.{entries_of, rule_found}
use Rattle.framehop_cache.specs.declared.rule_cache.CacheResult.TheVariants.{Miss}
use Rattle.framehop_cache.specs.declared.rule_cache.CacheSet.{CacheSet}

-- a write to a set
pub write_at : {R : Type 0} (sets : List (CacheSet R)) (number : ℕ) (set : CacheSet R)
    → map entries_of (slice_set sets number set) ≡ slice_set (map entries_of sets) number (entries_of set)
write_at [] number set = refl
write_at (other ∷ sets) zero set = refl
write_at (other ∷ sets) (suc number) set = ap (λ rest. entries_of other ∷ rest) (write_at sets number set)

-- the entries of a set
pub set_at : {R : Type 0} (sets : List (CacheSet R)) (number : ℕ) (set : CacheSet R) → number < length sets
    → get_or (map entries_of sets) number [] ≡ entries_of (get_or sets number set)
set_at sets number set within = get_or-map entries_of sets number set [] within

-- a lookup that finds no rule is no hit
pub missed : {R : Type 0} (found : Option (Entry R)) (other : Found R) → rule_found found ≡ None
    → hit_or found other ≡ other
missed None other none = refl
missed (Some entry) other none = search rules

-- a lookup in a set without an entry
pub empty_misses : {R : Type 0} (set : List (Entry R)) (key : Key) → (length set == 0) ≡ true
    → found_in ways set key ≡ empty_slot
empty_misses [] key empty = refl
empty_misses (entry ∷ set) key empty = search rules

-- a lookup that found no rule
pub no_rule : {R : Type 0} (key : Key) (found : Found R) → rule_of found ≡ None → result_of key found ≡ Miss key
no_rule key (hit rule) none = search rules
no_rule key empty_slot none = refl
no_rule key wrong_modules none = refl
no_rule key wrong_address none = refl
