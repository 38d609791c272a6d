-- Objects of aarch64, as clauses speak of them.
use Rattle.std.specs.Prelude.{⊤, ℕ, Option, Some, None}
use Rattle.framehop_core.specs.Memory.{Memory}
use Rattle.framehop_core.specs.Aarch64.Registers.{Registers, strip_ptr_auth}
use Rattle.framehop_core.specs.declared.aarch64.unwind_rule.UnwindRuleAarch64.{UnwindRuleAarch64}
use Rattle.framehop_cache.specs.Cache.{CacheView}
use Rattle.framehop.specs.Fresh.{step}
use Rattle.framehop.specs.Modules.{UnwinderView}
use Rattle.framehop.specs.Policy.{Policy, with_allocation, without_allocation}
use Rattle.framehop.specs.Soundness.{AreApart}
use Rattle.framehop.specs.Walk.{Walk, walk_from}
use Rattle.framehop.specs.Aarch64.{aarch64, IsSoundAarch64}
use Rattle.framehop_c.specs.declared.aarch64.FramehopRegistersAarch64.{FramehopRegistersAarch64}
use Rattle.framehop_c.specs.declared.object.Object.{Object}
use Rattle.framehop_c.specs.declared.object.Object.TheVariants.{UnwinderAarch64, LimitedUnwinderAarch64, CacheAarch64, LimitedCacheAarch64}

-- the registers that C passes, lr without the bits that the mask lacks
abbrev pub registers_in : FramehopRegistersAarch64 → Registers
registers_in r = record { lr_mask = r.lr_mask; lr = strip_ptr_auth r.lr_mask r.lr; sp = r.sp; fp = r.fp }

-- the unwinder that an object is, with its policy
abbrev pub unwinder_in : Object → Option (Policy × UnwinderView)
unwinder_in (UnwinderAarch64 unwinder) = Some (with_allocation, unwinder)
unwinder_in (LimitedUnwinderAarch64 unwinder) = Some (without_allocation, unwinder)
unwinder_in _ = None

-- the cache that an object is, with its policy
abbrev pub cache_in : Object → Option (Policy × CacheView UnwindRuleAarch64)
cache_in (CacheAarch64 cache) = Some (with_allocation, cache.0)
cache_in (LimitedCacheAarch64 cache) = Some (without_allocation, cache.0)
cache_in _ = None

-- what holds of an unwinder before and after a call
abbrev pub ForUnwinder : Object → Object → (Policy → UnwinderView → UnwinderView → Type 0) → Type 0
ForUnwinder (UnwinderAarch64 old) (UnwinderAarch64 new) holds = holds with_allocation old new
ForUnwinder (LimitedUnwinderAarch64 old) (LimitedUnwinderAarch64 new) holds = holds without_allocation old new
ForUnwinder (UnwinderAarch64 old) _ holds = ⊥
ForUnwinder (LimitedUnwinderAarch64 old) _ holds = ⊥
ForUnwinder _ _ holds = ⊤

-- what holds of an unwinder and a cache of one policy, the cache before and after a call
abbrev pub ForPair : Object → Object → Object
    → (Policy → UnwinderView → CacheView UnwindRuleAarch64 → CacheView UnwindRuleAarch64 → Type 0) → Type 0
ForPair (UnwinderAarch64 unwinder) (CacheAarch64 old) (CacheAarch64 new) holds =
    holds with_allocation unwinder old.0 new.0
ForPair (LimitedUnwinderAarch64 unwinder) (LimitedCacheAarch64 old) (LimitedCacheAarch64 new) holds =
    holds without_allocation unwinder old.0 new.0
ForPair (UnwinderAarch64 unwinder) (CacheAarch64 old) _ holds = ⊥
ForPair (LimitedUnwinderAarch64 unwinder) (LimitedCacheAarch64 old) _ holds = ⊥
ForPair _ _ _ holds = ⊤

-- an unwinder and a cache of one policy; or else what C is told
abbrev pub IsPaired : Object → Object → Type 0 → Type 0
IsPaired (UnwinderAarch64 unwinder) (CacheAarch64 cache) wrong = wrong → ⊥
IsPaired (LimitedUnwinderAarch64 unwinder) (LimitedCacheAarch64 cache) wrong = wrong → ⊥
IsPaired _ _ wrong = wrong

-- a cache that is sound for another unwinder, of other generations or the same modules, stays so
abbrev pub StaysSound : Policy → UnwinderView → CacheView UnwindRuleAarch64 → CacheView UnwindRuleAarch64 → Type 0
StaysSound policy unwinder old new =
    (other : UnwinderView) → AreApart unwinder other → IsSoundAarch64 policy other old → IsSoundAarch64 policy other new

-- only an unwinder that may take memory while it unwinds
abbrev pub RunsOutOnly : Object → Type 0
RunsOutOnly (UnwinderAarch64 unwinder) = ⊤
RunsOutOnly _ = ⊥

-- the walk of an unwinder over a memory
abbrev pub walk_over : Policy → UnwinderView → Memory → ℕ → ℕ → Registers → Walk Registers
walk_over policy unwinder memory limit pc regs =
    walk_from (λ location now. step (aarch64 policy) unwinder.modules location now memory) limit pc regs
