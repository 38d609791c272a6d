-- Unwinding on aarch64, and a walk to its end, in the words of contracts.
use Rattle.std.specs.Prelude.{◌≡◌, ◌≢◌, ℕ, ◌+◌, ◌^◌, ◌≤◌, true, List, take, drop, ◌⊎◌, Err}
use Rattle.framehop_core.specs.Memory.{Memory}
use Rattle.framehop_core.specs.Outcome.{Outcome, answered, registers_after}
use Rattle.framehop_core.specs.CodeAddress.{FrameLocation, at_instruction_pointer}
use Rattle.framehop_core.specs.Aarch64.Registers.{Registers}
use Rattle.framehop_core.specs.Aarch64.Rules.{outcome}
use Rattle.framehop_core.specs.declared.aarch64.unwind_rule.UnwindRuleAarch64.{UnwindRuleAarch64}
use Rattle.framehop_core.specs.declared.aarch64.unwind_rule.UnwindRuleAarch64.TheVariants.{NoOp, UseFramePointer, NoOpIfFirstFrameOtherwiseFp}
use Rattle.framehop_dwarf.specs.Aarch64.{translated, direct_of, RowMeans, ColumnsMean}
use Rattle.framehop_analysis.specs.Aarch64.Prologue.{IsPrologueRule, ReachesFrom, UndoesPrologue}
use Rattle.framehop_analysis.specs.Aarch64.Epilogue.{IsEpilogueRule, EndsFrom, DoesEpilogue}
use Rattle.framehop_pe.specs.declared.pe.PeUnwinderError.TheVariants.{Aarch64Unsupported}
use Rattle.framehop_macho.specs.Aarch64.{says, helper_rule, by_code}
use Rattle.framehop_cache.specs.Cache.{CacheView}
use Rattle.framehop.specs.Modules.{ModuleView, UnwinderView}
use Rattle.framehop.specs.Meaning.{Meanings, MeansAt}
use Rattle.framehop.specs.Policy.{Policy}
use Rattle.framehop.specs.Unwinding.{Unwinding, Readers, answer_by, may_take_memory_by}
use Rattle.framehop.specs.Soundness.{IsSound, cache_after}
use Rattle.framehop.specs.Walk.{at_limit, walk_from, cache_after_walk}
use Rattle.framehop.specs.Rise.{IsWalkWithinRise}
use Rattle.framehop.specs.Meant.{IsWalkMeant}
use Rattle.framehop.specs.World.{walked}
use Rattle.framehop.specs.CachedWorld.{CachedReply, of_world, step_of}
use Rattle.framehop.specs.declared.aarch64.cache.CacheAarch64.{CacheAarch64}

-- what aarch64 makes of unwind data
abbrev pub aarch64_readers : Readers UnwindRuleAarch64 Registers
aarch64_readers = record {
  rows = record { translated = translated; uncovered = NoOpIfFirstFrameOtherwiseFp; direct = direct_of };
  pe_found = λ sections relative first. Err Aarch64Unsupported;
  pe_computed = λ sections relative first memory old. Err Aarch64Unsupported;
  compact = record { stub_rule = NoOp; start_rule = NoOp; helper_rule = helper_rule; says = says };
}

-- what the sources of rules mean on aarch64
abbrev pub aarch64_meanings : Meanings UnwindRuleAarch64 Registers
aarch64_meanings = record {
  row = RowMeans;
  columns = ColumnsMean;
  by_code = by_code;
  does_code = λ code offset rule.
      (IsPrologueRule (take offset code) (drop offset code) rule × ReachesFrom (take offset code)
      × UndoesPrologue (take offset code) rule)
      ⊎ (IsEpilogueRule code offset rule × EndsFrom code offset × DoesEpilogue code offset rule);
}

-- a step is what the source of its rule means
abbrev pub aarch64_means : Policy → List ModuleView → FrameLocation → Registers → Memory → ℕ → Registers → Type 0
aarch64_means policy modules location old memory address new =
    MeansAt aarch64_readers aarch64_meanings outcome policy modules location old memory address new

-- aarch64 under a policy
unfoldable pub aarch64 : Policy → Unwinding UnwindRuleAarch64 Registers
aarch64 policy = record {
  outcome = outcome;
  fallback = UseFramePointer;
  module_answer = answer_by aarch64_readers policy;
  may_take_memory = may_take_memory_by aarch64_readers policy;
  stack_pointer = λ r. r.sp;
  always_rises = true;
}

-- the step of an unwinder over a memory
abbrev pub aarch64_step : Policy → UnwinderView → Memory → FrameLocation → Registers → Outcome Registers
aarch64_step policy unwinder memory location regs = step_of (aarch64 policy) unwinder memory location regs

-- the cache changes no answer
abbrev pub IsSoundAarch64 : Policy → UnwinderView → CacheView UnwindRuleAarch64 → Type 0
IsSoundAarch64 policy unwinder cache = IsSound (aarch64 policy) unwinder cache.sets

-- the cache after a step at a location
abbrev pub aarch64_cache_after : {P Rows Values Stack : Type 0} → Policy → UnwinderView
    → CacheAarch64 P Rows Values Stack → FrameLocation → CacheAarch64 P Rows Values Stack
aarch64_cache_after policy unwinder cache location =
    record { 0 = cache_after (aarch64 policy) unwinder cache.0 location }

-- A walk to its end: the walk of some limit that it does not reach, and the cache that it leaves. Each step after the
-- first raises sp, so it has at most two frames more than sp has risen since then; and each step of it means its source.
pub record IsWalkToEnd {P Rows Values Stack : Type 0} (policy : Policy) (unwinder : UnwinderView) (memory : Memory)
    (pc : ℕ) (regs : Registers) (reply : CachedReply Registers)
    (old new : CacheAarch64 P Rows Values Stack) : Type 0 where
  pub limit : ℕ
  pub few : limit ≤ 2 ^ 64 + 2
  pub ended : (walk_from (aarch64_step policy unwinder memory) limit pc regs).end ≢ at_limit
  pub reply_is : reply ≡ of_world (walked (walk_from (aarch64_step policy unwinder memory) limit pc regs))
  pub all_rise : (aarch64 policy).always_rises ≡ true
  pub within : IsWalkWithinRise (λ r. r.sp)
      (registers_after regs (aarch64_step policy unwinder memory (at_instruction_pointer pc) regs))
      (walk_from (aarch64_step policy unwinder memory) limit pc regs)
  pub means : IsWalkMeant
      (λ location before address after. (aarch64_step policy unwinder memory location before ≡ answered address after)
      × aarch64_means policy unwinder.modules location before memory address after)
      regs (walk_from (aarch64_step policy unwinder memory) limit pc regs)
  pub cached : new ≡ cache_after_walk (aarch64_step policy unwinder memory)
      (aarch64_cache_after policy unwinder) limit pc regs old
