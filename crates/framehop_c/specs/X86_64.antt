-- Objects of x86_64, as clauses speak of them.
use Rattle.std.specs.Prelude.{⊤, ℕ, Option, Some, None}
use Rattle.framehop_core.specs.Memory.{Memory}
use Rattle.framehop_core.specs.X86_64.Registers.{Registers}
use Rattle.framehop_core.specs.declared.x86_64.unwind_rule.UnwindRuleX86_64.{UnwindRuleX86_64}
use Rattle.framehop_cache.specs.Cache.{CacheView}
use Rattle.framehop.specs.Fresh.{step}
use Rattle.framehop.specs.Modules.{UnwinderView}
use Rattle.framehop.specs.Policy.{Policy, with_allocation, without_allocation}
use Rattle.framehop.specs.Soundness.{AreApart}
use Rattle.framehop.specs.Walk.{Walk, walk_from}
use Rattle.framehop.specs.X86_64.{x86_64, IsSoundX86_64}
use Rattle.framehop_c.specs.declared.x86_64.FramehopRegistersX86_64.{FramehopRegistersX86_64}
use Rattle.framehop_c.specs.declared.object.Object.{Object}
use Rattle.framehop_c.specs.declared.object.Object.TheVariants.{UnwinderX86_64, LimitedUnwinderX86_64, CacheX86_64, LimitedCacheX86_64}

-- the registers that C passes
abbrev pub registers_in : FramehopRegistersX86_64 → Registers
registers_in r = record {
  ip = r.ip;
  rax = r.rax;
  rdx = r.rdx;
  rcx = r.rcx;
  rbx = r.rbx;
  rsi = r.rsi;
  rdi = r.rdi;
  rbp = r.rbp;
  rsp = r.rsp;
  r8 = r.r8;
  r9 = r.r9;
  r10 = r.r10;
  r11 = r.r11;
  r12 = r.r12;
  r13 = r.r13;
  r14 = r.r14;
  r15 = r.r15;
}

-- the unwinder that an object is, with its policy
abbrev pub unwinder_in : Object → Option (Policy × UnwinderView)
unwinder_in (UnwinderX86_64 unwinder) = Some (with_allocation, unwinder)
unwinder_in (LimitedUnwinderX86_64 unwinder) = Some (without_allocation, unwinder)
unwinder_in _ = None

-- the cache that an object is, with its policy
abbrev pub cache_in : Object → Option (Policy × CacheView UnwindRuleX86_64)
cache_in (CacheX86_64 cache) = Some (with_allocation, cache.0)
cache_in (LimitedCacheX86_64 cache) = Some (without_allocation, cache.0)
cache_in _ = None

-- what holds of an unwinder before and after a call
abbrev pub ForUnwinder : Object → Object → (Policy → UnwinderView → UnwinderView → Type 0) → Type 0
ForUnwinder (UnwinderX86_64 old) (UnwinderX86_64 new) holds = holds with_allocation old new
ForUnwinder (LimitedUnwinderX86_64 old) (LimitedUnwinderX86_64 new) holds = holds without_allocation old new
ForUnwinder (UnwinderX86_64 old) _ holds = ⊥
ForUnwinder (LimitedUnwinderX86_64 old) _ holds = ⊥
ForUnwinder _ _ holds = ⊤

-- what holds of an unwinder and a cache of one policy, the cache before and after a call
abbrev pub ForPair : Object → Object → Object
    → (Policy → UnwinderView → CacheView UnwindRuleX86_64 → CacheView UnwindRuleX86_64 → Type 0) → Type 0
ForPair (UnwinderX86_64 unwinder) (CacheX86_64 old) (CacheX86_64 new) holds =
    holds with_allocation unwinder old.0 new.0
ForPair (LimitedUnwinderX86_64 unwinder) (LimitedCacheX86_64 old) (LimitedCacheX86_64 new) holds =
    holds without_allocation unwinder old.0 new.0
ForPair (UnwinderX86_64 unwinder) (CacheX86_64 old) _ holds = ⊥
ForPair (LimitedUnwinderX86_64 unwinder) (LimitedCacheX86_64 old) _ holds = ⊥
ForPair _ _ _ holds = ⊤

-- an unwinder and a cache of one policy; or else what C is told
abbrev pub IsPaired : Object → Object → Type 0 → Type 0
IsPaired (UnwinderX86_64 unwinder) (CacheX86_64 cache) wrong = wrong → ⊥
IsPaired (LimitedUnwinderX86_64 unwinder) (LimitedCacheX86_64 cache) wrong = wrong → ⊥
IsPaired _ _ wrong = wrong

-- a cache that is sound for another unwinder, of other generations or the same modules, stays so
abbrev pub StaysSound : Policy → UnwinderView → CacheView UnwindRuleX86_64 → CacheView UnwindRuleX86_64 → Type 0
StaysSound policy unwinder old new =
    (other : UnwinderView) → AreApart unwinder other → IsSoundX86_64 policy other old → IsSoundX86_64 policy other new

-- only an unwinder that may take memory while it unwinds
abbrev pub RunsOutOnly : Object → Type 0
RunsOutOnly (UnwinderX86_64 unwinder) = ⊤
RunsOutOnly _ = ⊥

-- the walk of an unwinder over a memory
abbrev pub walk_over : Policy → UnwinderView → Memory → ℕ → ℕ → Registers → Walk Registers
walk_over policy unwinder memory limit pc regs =
    walk_from (λ location now. step (x86_64 policy) unwinder.modules location now memory) limit pc regs
