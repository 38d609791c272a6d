-- What a lookup returns.
-- (framehop 0.16.0, `CacheResult`.)
use Rattle.std.specs.Prelude.{◌≡◌, Bool, true, Option, Some, None, ⊤}
use Rattle.framehop_cache.specs.Cache.{Key, Found, hit, empty_slot, wrong_modules, wrong_address}
use Rattle.framehop_cache.specs.declared.rule_cache.CacheResult.{CacheResult}
use Rattle.framehop_cache.specs.declared.rule_cache.CacheResult.TheVariants.{Hit, Miss}

-- the rule that was found, or the key for an insert
abbrev pub result_of : {R : Type 0} → Key → Found R → CacheResult R
result_of key (hit rule) = Hit rule
result_of key empty_slot = Miss key
result_of key wrong_modules = Miss key
result_of key wrong_address = Miss key

-- the rule that was found
abbrev pub rule_of : {R : Type 0} → Found R → Option R
rule_of (hit rule) = Some rule
rule_of empty_slot = None
rule_of wrong_modules = None
rule_of wrong_address = None

-- a rule that a lookup returns can be run
abbrev pub HitRuns : {R : Type 0} → (R → Bool) → CacheResult R → Type 0
HitRuns executable (Hit rule) = executable rule ≡ true
HitRuns executable (Miss _) = ⊤
