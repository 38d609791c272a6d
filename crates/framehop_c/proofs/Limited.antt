-- Under the limited policy no step takes memory.
use Rattle.std.proofs.Common.{◌≡◌, ℕ, ◌-◌, Bool, false, Result, Ok, Err, refl}
use Rattle.framehop_core.specs.CodeAddress.{FrameLocation, lookup_address, is_first_frame}
use Rattle.framehop_core.specs.declared.x86_64.unwind_rule.UnwindRuleX86_64.{UnwindRuleX86_64}
use Rattle.framehop_core.specs.declared.aarch64.unwind_rule.UnwindRuleAarch64.{UnwindRuleAarch64}
use Rattle.framehop_cache.specs.Cache.{CacheView}
use Rattle.framehop_dwarf.specs.MayTakeMemory.{may_take_memory}
use Rattle.framehop.specs.Lookup.{EntryAt, fde_entry, rule_entry, pe_entry, entry_at}
use Rattle.framehop.specs.Modules.{ModuleView, UnwinderView}
use Rattle.framehop.specs.Unwinding.{Unwinding, Readers, entry_may_take_memory, may_take_memory_by}
use Rattle.framehop.specs.declared.modules.UnwinderError.{UnwinderError}
use Rattle.framehop.specs.Policy.{without_allocation}
use Rattle.framehop.specs.Soundness.{MayRunOut}
use Rattle.framehop.specs.X86_64.{x86_64, x86_64_readers}
use Rattle.framehop.specs.Aarch64.{aarch64, aarch64_readers}
use Rattle.framehop.specs.Laws.X86_64 as laws_of_x86_64
use Rattle.framehop.specs.Laws.Aarch64 as laws_of_aarch64

entry-takes-none : {Rule : Type 0} (entry : Result (EntryAt Rule) UnwinderError) (relative : ℕ) → entry_may_take_memory without_allocation relative entry ≡ false
unfolding may_take_memory
entry-takes-none (Ok (fde_entry fde)) relative = refl
entry-takes-none (Ok (rule_entry rule)) relative = refl
entry-takes-none (Ok (pe_entry sections)) relative = refl
entry-takes-none (Err error) relative = refl

module-takes-none : {Rule Regs : Type 0} (readers : Readers Rule Regs) (m : ModuleView) (relative : ℕ) (first : Bool) → may_take_memory_by readers without_allocation m relative first ≡ false
unfolding may_take_memory_by
module-takes-none readers m relative first = entry-takes-none (entry_at readers.compact m.unwind_data relative first) relative

never-runs-out : {Rule Regs : Type 0} (unwinding : Unwinding Rule Regs) → ((m : ModuleView) (relative : ℕ) (first : Bool) → unwinding.may_take_memory m relative first ≡ false) → (unwinder : UnwinderView) (cache : CacheView Rule) (location : FrameLocation) → MayRunOut unwinding unwinder cache location → ⊥
never-runs-out unwinding none unwinder cache location may =
    let takes = may.may.may in
    let takes-none = none may.may.covered_by (lookup_address location - may.may.covered_by.base_avma) (is_first_frame location) in
    cc

pub x86_64-never-runs-out : (unwinder : UnwinderView) (cache : CacheView UnwindRuleX86_64) (location : FrameLocation) → MayRunOut (x86_64 without_allocation) unwinder cache location → ⊥
x86_64-never-runs-out = never-runs-out (x86_64 without_allocation) (λ m relative first. rw (laws_of_x86_64.memory-is without_allocation) (module-takes-none x86_64_readers m relative first))

pub aarch64-never-runs-out : (unwinder : UnwinderView) (cache : CacheView UnwindRuleAarch64) (location : FrameLocation) → MayRunOut (aarch64 without_allocation) unwinder cache location → ⊥
aarch64-never-runs-out = never-runs-out (aarch64 without_allocation) (λ m relative first. rw (laws_of_aarch64.memory-is without_allocation) (module-takes-none aarch64_readers m relative first))
