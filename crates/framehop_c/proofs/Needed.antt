-- Where a frame's rule is in the cache, the words of which C is told are those for which its step is refused over each stack.
use Rattle.std.proofs.Common.{◌≡◌, ◌⊎◌, inl, inr, ℕ, ℤ, pos, Bool, true, false, cond, nat_eq, refl, sym, ap, ◌∙◌, arith}
use Rattle.framehop_core.specs.Memory.{Memory}
use Rattle.framehop_core.specs.Outcome.{Outcome, answer_of}
use Rattle.framehop_core.specs.CodeAddress.{FrameLocation, at_return_address, is_first_frame}
use Rattle.framehop_core.specs.X86_64.Registers as of_x86_64
use Rattle.framehop_core.specs.Aarch64.Registers as of_aarch64
use Rattle.framehop_core.specs.X86_64.Rules as rules_of_x86_64
use Rattle.framehop_core.specs.Aarch64.Rules as rules_of_aarch64
use Rattle.framehop_core.specs.declared.x86_64.unwind_rule.UnwindRuleX86_64.{UnwindRuleX86_64}
use Rattle.framehop_core.specs.declared.aarch64.unwind_rule.UnwindRuleAarch64.{UnwindRuleAarch64}
use Rattle.framehop_cache.specs.Cache.{CacheView, Found, hit, empty_slot, wrong_modules, wrong_address, found, counted, ways}
use Rattle.framehop_cache.specs.CacheResult.{result_of}
use Rattle.framehop_cache.specs.declared.rule_cache.CacheStats.{CacheStats}
use Rattle.framehop.specs.Fresh.{step}
use Rattle.framehop.specs.Modules.{UnwinderView}
use Rattle.framehop.specs.Policy.{Policy}
use Rattle.framehop.specs.Soundness.{IsSound, MayRunOut, key_of, cache_after, cache_after_lookup}
use Rattle.framehop.specs.Unwinding.{Unwinding}
use Rattle.framehop.specs.X86_64.{x86_64, IsSoundX86_64}
use Rattle.framehop.specs.Aarch64.{aarch64, IsSoundAarch64}
use Rattle.framehop.specs.Laws.X86_64 as laws_of_x86_64
use Rattle.framehop.specs.Laws.Aarch64 as laws_of_aarch64
use Rattle.framehop.proofs.SoundnessLemmas.{step-hit}
use Rattle.framehop_lent.specs.Window.{unreadable_word}
use Rattle.framehop_c.specs.Ahead.{IsAsked, IsNeeded, LeavesOutNone, IsEnough}
use Rattle.framehop_c.specs.Lookups.{no_lookup, lookup_hit, lookup_between}
use Rattle.framehop_c.specs.declared.next.FramehopAhead.{FramehopAhead}
use Rattle.framehop_c.proofs.RuleWordsX86_64 as words_of_x86_64
use Rattle.framehop_c.proofs.RuleWordsAarch64 as words_of_aarch64

test-same : (a : ℕ) → nat_eq a a ≡ true
test-same a = grind arith

no-hit : (a b c : Bool) → cond a (cond b (cond c no_lookup (pos 4)) (pos 3)) (pos 2) ≡ lookup_hit → ⊥
no-hit false b c is = cc
no-hit true false c is = cc
no-hit true true false is = cc
no-hit true true true is = cc

not-hit : (before after : CacheStats) → nat_eq after.hit_count before.hit_count ≡ true → lookup_between before after ≡ lookup_hit → ⊥
not-hit before after same is =
    let others : cond (nat_eq after.miss_empty_slot_count before.miss_empty_slot_count) (cond (nat_eq after.miss_wrong_modules_count before.miss_wrong_modules_count) (cond (nat_eq after.miss_wrong_address_count before.miss_wrong_address_count) no_lookup (pos 4)) (pos 3)) (pos 2) ≡ lookup_hit = rw same at is in
    no-hit (nat_eq after.miss_empty_slot_count before.miss_empty_slot_count) (nat_eq after.miss_wrong_modules_count before.miss_wrong_modules_count) (nat_eq after.miss_wrong_address_count before.miss_wrong_address_count) others

-- the count that a hit alone changes
hit-counted : {R : Type 0} (before : CacheStats) (seen : Found R) → lookup_between before (counted before seen) ≡ lookup_hit → (rule : R) × (seen ≡ hit rule)
hit-counted {R} before (hit rule) is = (rule, refl)
hit-counted {R} before empty_slot is = absurd (not-hit before (counted {R = R} before empty_slot) (test-same before.hit_count) is)
hit-counted {R} before wrong_modules is = absurd (not-hit before (counted {R = R} before wrong_modules) (test-same before.hit_count) is)
hit-counted {R} before wrong_address is = absurd (not-hit before (counted {R = R} before wrong_address) (test-same before.hit_count) is)

-- the word that equal outcomes are refused for
word-of : {Regs : Type 0} {one other : Outcome Regs} → one ≡ other → unreadable_word (answer_of one) ≡ unreadable_word (answer_of other)
word-of same = ap (λ outcome. unreadable_word (answer_of outcome)) same

module _ {R Regs : Type 0} (unwinding : Unwinding R Regs) (unwinder : UnwinderView) (cache : CacheView R) (location : FrameLocation) where
  after-stats : (cache_after unwinding unwinder cache location).stats ≡ counted cache.stats (found ways cache.sets (key_of unwinder location))
  unfolding cache_after
  after-stats = refl

  lookup-stats : (cache_after_lookup unwinder cache location).stats ≡ counted cache.stats (found ways cache.sets (key_of unwinder location))
  unfolding cache_after_lookup
  lookup-stats = refl

  -- both have one lookup more
  pub looked-up : (number : ℤ) → (number ≡ lookup_between cache.stats (cache_after unwinding unwinder cache location).stats) ⊎ (number ≡ lookup_between cache.stats (cache_after_lookup unwinder cache location).stats) → number ≡ lookup_between cache.stats (counted cache.stats (found ways cache.sets (key_of unwinder location)))
  looked-up number (inl is) = is ∙ ap (lookup_between cache.stats) after-stats
  looked-up number (inr is) = is ∙ ap (lookup_between cache.stats) lookup-stats

  -- as the exported calls say it
  pub looked-up-after : (number : ℤ) → (number ≡ lookup_between cache.stats (cache_after unwinding unwinder cache location).stats) ⊎ (number ≡ lookup_between cache.stats (cache_after_lookup unwinder cache location).stats) → number ≡ lookup_between cache.stats (cache_after unwinding unwinder cache location).stats
  looked-up-after number is = looked-up number is ∙ ap (lookup_between cache.stats) (sym after-stats)

  -- the rule that was found steps
  stepped : IsSound unwinding unwinder cache.sets → (rule : R) → found ways cache.sets (key_of unwinder location) ≡ hit rule → (regs : Regs) (memory : Memory) → unwinding.outcome rule (is_first_frame location) regs memory ≡ step unwinding unwinder.modules location regs memory
  stepped sound rule is regs memory = step-hit unwinding unwinder cache location rule regs memory sound (ap (result_of (key_of unwinder location)) is)

  -- a lookup that hits leaves the rules
  kept : (rule : R) → found ways cache.sets (key_of unwinder location) ≡ hit rule → (cache_after unwinding unwinder cache location).sets ≡ cache.sets
  unfolding cache_after
  kept rule is = rw is refl

  -- a step by a rule takes no memory, nor does the next one by it
  takes-none : (rule : R) → found ways cache.sets (key_of unwinder location) ≡ hit rule → MayRunOut unwinding unwinder cache location ⊎ MayRunOut unwinding unwinder (cache_after unwinding unwinder cache location) location → ⊥
  takes-none rule is (inl may) = may.missed rule is
  takes-none rule is (inr may) = may.missed rule (ap (λ sets. found ways sets (key_of unwinder location)) (kept rule is) ∙ is)

  -- no word is left out, since memory can't run out where the rule is in the cache
  module _ {Given : Type 0} (asking : Memory → Outcome Given) (told : FramehopAhead) where
    whole-by-hit : (told.lookup ≡ lookup_between cache.stats (cache_after unwinding unwinder cache location).stats) ⊎ (told.lookup ≡ lookup_between cache.stats (cache_after_lookup unwinder cache location).stats)
        → LeavesOutNone asking told ⊎ (MayRunOut unwinding unwinder cache location ⊎ MayRunOut unwinding unwinder (cache_after unwinding unwinder cache location) location) → LeavesOutNone asking told
    whole-by-hit looked (inl all) = all
    whole-by-hit looked (inr may) =
        let never : told.lookup ≡ lookup_hit → ⊥ = λ is_hit.
        let rule = hit-counted cache.stats _ (sym (looked-up told.lookup looked) ∙ is_hit) in
        takes-none rule.0 rule.1 may in
        record { none = λ is_hit zero. absurd (never is_hit); one = λ is_hit one. absurd (never is_hit) }

module _ (policy : Policy) (unwinder : UnwinderView) (cache : CacheView UnwindRuleX86_64) (address : ℕ) (regs : of_x86_64.Registers) (told : FramehopAhead) (sound : IsSoundX86_64 policy unwinder cache) where
  by-rule : (rule : UnwindRuleX86_64) → found ways cache.sets (key_of unwinder (at_return_address address)) ≡ hit rule → (memory : Memory) → rules_of_x86_64.outcome rule false regs memory ≡ step (x86_64 policy) unwinder.modules (at_return_address address) regs memory
  by-rule rule is memory =
      ap (λ outcome. outcome rule false regs memory) (sym (laws_of_x86_64.outcome-is policy)) ∙ stepped (x86_64 policy) unwinder cache (at_return_address address) sound rule is regs memory

  pub x86_64-needed : IsAsked (λ memory. step (x86_64 policy) unwinder.modules (at_return_address address) regs memory) told
      → (told.lookup ≡ lookup_between cache.stats (cache_after (x86_64 policy) unwinder cache (at_return_address address)).stats) ⊎ (told.lookup ≡ lookup_between cache.stats (cache_after_lookup unwinder cache (at_return_address address)).stats)
      → IsNeeded (λ memory. step (x86_64 policy) unwinder.modules (at_return_address address) regs memory) told
  x86_64-needed asked looked =
      let number = looked-up (x86_64 policy) unwinder cache (at_return_address address) told.lookup looked in
      record {
        first = λ is_hit some memory gone.
            let rule = hit-counted cache.stats _ (sym number ∙ is_hit) in
            sym (by-rule rule.0 rule.1 memory) ∙ words_of_x86_64.first-needed rule.0 regs told.first memory (by-rule rule.0 rule.1 _ ∙ asked.first some) gone;
        second = λ two memory word there gone.
            let rule = hit-counted cache.stats _ (sym number ∙ asked.known two) in
            sym (by-rule rule.0 rule.1 memory)
            ∙ words_of_x86_64.second-needed rule.0 regs told.first told.second word memory (by-rule rule.0 rule.1 _ ∙ asked.first (omega arith)) (by-rule rule.0 rule.1 _ ∙ asked.second two) there gone;
      }

  pub x86_64-enough : IsAsked (λ memory. step (x86_64 policy) unwinder.modules (at_return_address address) regs memory) told
      → (told.lookup ≡ lookup_between cache.stats (cache_after (x86_64 policy) unwinder cache (at_return_address address)).stats) ⊎ (told.lookup ≡ lookup_between cache.stats (cache_after_lookup unwinder cache (at_return_address address)).stats)
      → LeavesOutNone (λ memory. step (x86_64 policy) unwinder.modules (at_return_address address) regs memory) told ⊎ (MayRunOut (x86_64 policy) unwinder cache (at_return_address address) ⊎ MayRunOut (x86_64 policy) unwinder (cache_after (x86_64 policy) unwinder cache (at_return_address address)) (at_return_address address))
      → IsEnough (λ memory. step (x86_64 policy) unwinder.modules (at_return_address address) regs memory) told
  x86_64-enough asked looked left =
      let number = looked-up (x86_64 policy) unwinder cache (at_return_address address) told.lookup looked in
      let whole = whole-by-hit (x86_64 policy) unwinder cache (at_return_address address) (λ memory. step (x86_64 policy) unwinder.modules (at_return_address address) regs memory) told looked left in
      record {
        none = λ is_hit zero memory.
            let rule = hit-counted cache.stats _ (sym number ∙ is_hit) in
            word-of (sym (by-rule rule.0 rule.1 memory)) ∙ words_of_x86_64.none-needed rule.0 regs memory (word-of (by-rule rule.0 rule.1 _) ∙ whole.none is_hit zero);
        one = λ is_hit one memory word there.
            let rule = hit-counted cache.stats _ (sym number ∙ is_hit) in
            word-of (sym (by-rule rule.0 rule.1 memory))
            ∙ words_of_x86_64.one-needed rule.0 regs told.first word memory (by-rule rule.0 rule.1 _ ∙ asked.first (omega (arith, one))) (word-of (by-rule rule.0 rule.1 _) ∙ whole.one is_hit one) there;
      }

module _ (policy : Policy) (unwinder : UnwinderView) (cache : CacheView UnwindRuleAarch64) (address : ℕ) (regs : of_aarch64.Registers) (told : FramehopAhead) (sound : IsSoundAarch64 policy unwinder cache) where
  by-rule-of-aarch64 : (rule : UnwindRuleAarch64) → found ways cache.sets (key_of unwinder (at_return_address address)) ≡ hit rule → (memory : Memory) → rules_of_aarch64.outcome rule false regs memory ≡ step (aarch64 policy) unwinder.modules (at_return_address address) regs memory
  by-rule-of-aarch64 rule is memory =
      ap (λ outcome. outcome rule false regs memory) (sym (laws_of_aarch64.outcome-is policy)) ∙ stepped (aarch64 policy) unwinder cache (at_return_address address) sound rule is regs memory

  pub aarch64-needed : IsAsked (λ memory. step (aarch64 policy) unwinder.modules (at_return_address address) regs memory) told
      → (told.lookup ≡ lookup_between cache.stats (cache_after (aarch64 policy) unwinder cache (at_return_address address)).stats) ⊎ (told.lookup ≡ lookup_between cache.stats (cache_after_lookup unwinder cache (at_return_address address)).stats)
      → IsNeeded (λ memory. step (aarch64 policy) unwinder.modules (at_return_address address) regs memory) told
  aarch64-needed asked looked =
      let number = looked-up (aarch64 policy) unwinder cache (at_return_address address) told.lookup looked in
      record {
        first = λ is_hit some memory gone.
            let rule = hit-counted cache.stats _ (sym number ∙ is_hit) in
            sym (by-rule-of-aarch64 rule.0 rule.1 memory) ∙ words_of_aarch64.first-needed rule.0 false regs told.first memory (by-rule-of-aarch64 rule.0 rule.1 _ ∙ asked.first some) gone;
        second = λ two memory word there gone.
            let rule = hit-counted cache.stats _ (sym number ∙ asked.known two) in
            sym (by-rule-of-aarch64 rule.0 rule.1 memory)
            ∙ words_of_aarch64.second-needed rule.0 false regs told.first told.second word memory (by-rule-of-aarch64 rule.0 rule.1 _ ∙ asked.first (omega arith)) (by-rule-of-aarch64 rule.0 rule.1 _ ∙ asked.second two) there gone;
      }

  pub aarch64-enough : IsAsked (λ memory. step (aarch64 policy) unwinder.modules (at_return_address address) regs memory) told
      → (told.lookup ≡ lookup_between cache.stats (cache_after (aarch64 policy) unwinder cache (at_return_address address)).stats) ⊎ (told.lookup ≡ lookup_between cache.stats (cache_after_lookup unwinder cache (at_return_address address)).stats)
      → LeavesOutNone (λ memory. step (aarch64 policy) unwinder.modules (at_return_address address) regs memory) told ⊎ (MayRunOut (aarch64 policy) unwinder cache (at_return_address address) ⊎ MayRunOut (aarch64 policy) unwinder (cache_after (aarch64 policy) unwinder cache (at_return_address address)) (at_return_address address))
      → IsEnough (λ memory. step (aarch64 policy) unwinder.modules (at_return_address address) regs memory) told
  aarch64-enough asked looked left =
      let number = looked-up (aarch64 policy) unwinder cache (at_return_address address) told.lookup looked in
      let whole = whole-by-hit (aarch64 policy) unwinder cache (at_return_address address) (λ memory. step (aarch64 policy) unwinder.modules (at_return_address address) regs memory) told looked left in
      record {
        none = λ is_hit zero memory.
            let rule = hit-counted cache.stats _ (sym number ∙ is_hit) in
            word-of (sym (by-rule-of-aarch64 rule.0 rule.1 memory)) ∙ words_of_aarch64.none-needed rule.0 false regs memory (word-of (by-rule-of-aarch64 rule.0 rule.1 _) ∙ whole.none is_hit zero);
        one = λ is_hit one memory word there.
            let rule = hit-counted cache.stats _ (sym number ∙ is_hit) in
            word-of (sym (by-rule-of-aarch64 rule.0 rule.1 memory))
            ∙ words_of_aarch64.one-needed rule.0 false regs told.first word memory (by-rule-of-aarch64 rule.0 rule.1 _ ∙ asked.first (omega (arith, one))) (word-of (by-rule-of-aarch64 rule.0 rule.1 _) ∙ whole.one is_hit one) there;
      }
