-- The numbers by which C is told how a lookup of the cache has ended.
use Rattle.std.specs.Prelude.{ℤ, pos, if◌then◌else◌, ◌==◌}
use Rattle.framehop_cache.specs.declared.rule_cache.CacheStats.{CacheStats}

abbrev pub no_lookup : ℤ
no_lookup = pos 0

abbrev pub lookup_hit : ℤ
lookup_hit = pos 1

-- the number of the count that is another: a hit, then the three kinds of misses
abbrev pub lookup_between : CacheStats → CacheStats → ℤ
lookup_between before after =
    if after.hit_count == before.hit_count
    then (if after.miss_empty_slot_count == before.miss_empty_slot_count
    then (if after.miss_wrong_modules_count == before.miss_wrong_modules_count
    then (if after.miss_wrong_address_count == before.miss_wrong_address_count then no_lookup else pos 4)
    else pos 3)
    else pos 2)
    else lookup_hit
