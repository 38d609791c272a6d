-- A state stays transparent through each command, and its replies are the world's.
use Rattle.std.proofs.Common.{◌≡◌, ℕ, zero, suc, ◌+◌, ◌-◌, ◌^◌, ◌<◌, ◌≤◌, Bool, true, false, cond, ◌==◌, ◌⊎◌, List, [], ◌∷◌, ◌++◌, map, length, replicate, slice_index_or, slice_set, Option, Some, None, refl, sym, ap, ◌∙◌, subst, inl, inr, ⊎_elim, arith, nat_lt, ltb-true, lt-ltb, ne_eqb, eq-eqb}
use Rattle.std.proofs.lemmas.List.{length-map}
use Rattle.framehop_core.specs.Outcome.{Outcome, answered, root, refused}
use Rattle.framehop_core.specs.CodeAddress.{FrameLocation, location_of, at_instruction_pointer, at_return_address}
use Rattle.framehop_cache.specs.Cache.{Entry, CacheView, Sets, empty_cache}
use Rattle.framehop.specs.Modules.{UnwinderView, with_module, has_start, without_module}
use Rattle.framehop.specs.Soundness.{Among, Stands, IsSound, Extends, cache_after}
use Rattle.framehop.specs.Unwinding.{Unwinding}
use Rattle.framehop.specs.Walk.{onward_cache, cache_after_callers, cache_after_walk}
use Rattle.framehop.specs.CachedWorld.{CachedWorld, empty_cached_world, world_of, unwinder_at, cache_at, step_of, cached_after}
use Rattle.framehop.specs.Transparent.{IsTransparent}
use Rattle.framehop.specs.World.{memory_of, refusal_of, needs_unwinder, needs_cache, needs_generation, modules_of}
use Rattle.framehop.specs.declared.session.commands.Command.{Command}
use Rattle.framehop.specs.declared.session.commands.Command.TheVariants.{New, Clone, Add, Remove, Step as StepCommand, Walk as WalkCommand, Stats}
use Rattle.framehop.specs.declared.session.commands.SessionError.{SessionError}
use Rattle.framehop.specs.declared.session.commands.SessionError.TheVariants.{NoSuchUnwinder, NoSuchCache, GenerationsExhausted}
use Rattle.framehop.proofs.SoundnessLemmas.{Extends-after, IsSound-extended, empty-stands}

-- ---- what is among a list that grew, or of which one was replaced

Among-push : {A : Type 0} (x y : A) (xs : List A) → Among x (xs ++ y ∷ []) → Among x xs ⊎ (y ≡ x)
Among-push x y [] (inl e) = inr e
Among-push x y [] (inr h) = absurd h
Among-push x y (z ∷ xs) (inl e) = inl (inl e)
Among-push x y (z ∷ xs) (inr h) = ⊎_elim (λ old. inl (inr old)) (λ e. inr e) (Among-push x y xs h)

Among-set : {A : Type 0} (x y : A) (xs : List A) (i : ℕ) → Among x (slice_set xs i y) → Among x xs ⊎ (y ≡ x)
Among-set x y [] i h = inl h
Among-set x y (z ∷ xs) zero (inl e) = inr e
Among-set x y (z ∷ xs) zero (inr h) = inl (inr h)
Among-set x y (z ∷ xs) (suc i) (inl e) = inl (inl e)
Among-set x y (z ∷ xs) (suc i) (inr h) = ⊎_elim (λ old. inl (inr old)) (λ e. inr e) (Among-set x y xs i h)

pub Among-index : {A : Type 0} (xs : List A) (i : ℕ) (d : A) → i < length xs → Among (slice_index_or xs i d) xs
Among-index [] i d h = absurd (omega arith)
Among-index (x ∷ xs) zero d h = inl refl
Among-index (x ∷ xs) (suc i) d h = inr (Among-index xs i d (omega arith))

Among-replicate : {A : Type 0} (x y : A) (n : ℕ) → Among x (replicate n y) → y ≡ x
Among-replicate x y zero h = absurd h
Among-replicate x y (suc n) (inl e) = e
Among-replicate x y (suc n) (inr h) = Among-replicate x y n h

-- ---- a walk extends its cache

module _ {R Regs : Type 0} (unwinding : Unwinding R Regs) (unwinder : UnwinderView) where
  Extends-trans : (a b c : Sets R) → Extends unwinding unwinder a b → Extends unwinding unwinder b c → Extends unwinding unwinder a c
  Extends-trans a b c ab bc = record {
    each = λ entry h. ⊎_elim (λ between. ab.each entry between) (λ added. inr added) (bc.each entry h);
  }

  module _ (step : FrameLocation → Regs → Outcome Regs) where
    Extends-onward : (old : Sets R) (next : FrameLocation → Regs → CacheView R) (now : CacheView R) (outcome : Outcome Regs) → Extends unwinding unwinder old now.sets → ((location : FrameLocation) (regs : Regs) → Extends unwinding unwinder old (next location regs).sets) → Extends unwinding unwinder old (onward_cache next now outcome).sets
    Extends-onward old next now (answered address new) here there = zero-or old next now address new here there (address == 0)
      where
        zero-or : (old : Sets R) (next : FrameLocation → Regs → CacheView R) (now : CacheView R) (address : ℕ) (new : Regs) → Extends unwinding unwinder old now.sets → ((location : FrameLocation) (regs : Regs) → Extends unwinding unwinder old (next location regs).sets) → (b : Bool) → Extends unwinding unwinder old (cond b now (next (at_return_address address) new)).sets
        zero-or old next now address new here there true = here
        zero-or old next now address new here there false = there (at_return_address address) new
    Extends-onward old next now root here there = here
    Extends-onward old next now (refused error) here there = here

    Extends-callers : (n : ℕ) (location : FrameLocation) (regs : Regs) (cache : CacheView R) → Extends unwinding unwinder cache.sets (cache_after_callers step (cache_after unwinding unwinder) n location regs cache).sets
    unfolding cache_after_callers
    Extends-callers zero location regs cache = record { each = λ entry h. inl h }
    Extends-callers (suc n) location regs cache =
        let now = cache_after unwinding unwinder cache location in
        let here = Extends-after unwinding unwinder cache location in
        Extends-onward cache.sets (λ caller new. cache_after_callers step (cache_after unwinding unwinder) n caller new now) now (step location regs) here
        (λ caller new. Extends-trans cache.sets now.sets _ here (Extends-callers n caller new now))

    Extends-walk : (n pc : ℕ) (regs : Regs) (cache : CacheView R) → Extends unwinding unwinder cache.sets (cache_after_walk step (cache_after unwinding unwinder) n pc regs cache).sets
    unfolding cache_after_walk
    Extends-walk zero pc regs cache = record { each = λ entry h. inl h }
    Extends-walk (suc n) pc regs cache = Extends-callers n (at_instruction_pointer pc) regs cache

-- ---- what a command that is not refused names

needs-none : (b : Bool) (other : Option SessionError) (error : SessionError) → cond b other (Some error) ≡ None → (b ≡ true) × (other ≡ None)
needs-none true other error e = (refl, e)
needs-none false other error e = cc

walk-within : {R : Type 0} (state : CachedWorld R) (unwinder cache : ℕ) → needs_unwinder (world_of state) unwinder (needs_cache (length state.caches) cache None) ≡ None → (unwinder < length state.unwinders) × (cache < length state.caches)
walk-within state unwinder cache e =
    let outer = needs-none (nat_lt unwinder (length (world_of state).unwinders)) (needs_cache (length state.caches) cache None) NoSuchUnwinder e in
    let inner = needs-none (nat_lt cache (length state.caches)) None NoSuchCache outer.1 in
    (omega (arith, ltb-true _ _ outer.0, length-map state.unwinders (λ (u : UnwinderView). u.modules)), ltb-true _ _ inner.0)

clone-within : {R : Type 0} (state : CachedWorld R) (unwinder : ℕ) → needs_unwinder (world_of state) unwinder None ≡ None → unwinder < length state.unwinders
clone-within state unwinder e =
    let outer = needs-none (nat_lt unwinder (length (world_of state).unwinders)) None NoSuchUnwinder e in
    omega (arith, ltb-true _ _ outer.0, length-map state.unwinders (λ (u : UnwinderView). u.modules))

-- an unwinder that is there refuses nothing of its own
pub unwinder-allowed : {R : Type 0} (state : CachedWorld R) (unwinder : ℕ) (other : Option SessionError) → unwinder < length state.unwinders → other ≡ None → needs_unwinder (world_of state) unwinder other ≡ None
unwinder-allowed state unwinder other within none =
    let there : nat_lt unwinder (length (world_of state).unwinders) ≡ true = lt-ltb _ _ (omega (arith, length-map state.unwinders (λ (u : UnwinderView). u.modules))) in
    rw (there, none) refl

-- an unwinder that is there and a counter that is not at its end refuse nothing
pub adds-allowed : {R : Type 0} (state : CachedWorld R) (unwinder : ℕ) → unwinder < length state.unwinders → state.next < 2 ^ 64 - 1 → needs_unwinder (world_of state) unwinder (needs_generation (world_of state)) ≡ None
adds-allowed state unwinder within left =
    let there : nat_lt unwinder (length (world_of state).unwinders) ≡ true = lt-ltb _ _ (omega (arith, length-map state.unwinders (λ (u : UnwinderView). u.modules))) in
    let some : ((2 ^ 64 - 1) - state.next == 0) ≡ false = ne_eqb _ _ (λ e. omega arith) in
    rw (there, some) refl

-- an unwinder and a cache that are there refuse nothing
pub walks-allowed : {R : Type 0} (state : CachedWorld R) (unwinder cache : ℕ) → unwinder < length state.unwinders → cache < length state.caches → needs_unwinder (world_of state) unwinder (needs_cache (length state.caches) cache None) ≡ None
walks-allowed state unwinder cache within in_caches =
    let there : nat_lt unwinder (length (world_of state).unwinders) ≡ true = lt-ltb _ _ (omega (arith, length-map state.unwinders (λ (u : UnwinderView). u.modules))) in
    let cached : nat_lt cache (length state.caches) ≡ true = lt-ltb _ _ in_caches in
    rw (there, cached) refl

pub CachedWorld-equal : {R : Type 0} (a b : CachedWorld R) → a.unwinders ≡ b.unwinders → a.next ≡ b.next → a.caches ≡ b.caches → a ≡ b
CachedWorld-equal a b p q r = λ i. record { unwinders = p i; next = q i; caches = r i }

pub modules-at : (us : List UnwinderView) (i : ℕ) → slice_index_or (map (λ (u : UnwinderView). u.modules) us) i [] ≡ (slice_index_or us i (record { modules = []; generation = 0 })).modules
modules-at [] i = refl
modules-at (u ∷ us) zero = refl
modules-at (u ∷ us) (suc i) = modules-at us i

set-same : {A : Type 0} (xs : List A) (i : ℕ) (d : A) → slice_set xs i (slice_index_or xs i d) ≡ xs
set-same [] i d = refl
set-same (x ∷ xs) zero d = refl
set-same (x ∷ xs) (suc i) d = ap (x ∷◌) (set-same xs i d)

-- a removal from an unwinder that is there, by whether it has such a module
module _ {R : Type 0} (state : CachedWorld R) (unwinder start : ℕ) (within : unwinder < length state.unwinders) where
  abbrev pub refusal-of-removal : Option SessionError
  refusal-of-removal = needs_unwinder (world_of state) unwinder (cond (has_start start (modules_of (world_of state) unwinder)) (needs_generation (world_of state)) None)

  abbrev pub removal-by : Bool → Option SessionError
  removal-by b = needs_unwinder (world_of state) unwinder (cond b (needs_generation (world_of state)) None)

  abbrev pub after-removal : Bool → CachedWorld R
  after-removal b = cond b (record state { unwinders = slice_set state.unwinders unwinder (record { modules = without_module start (unwinder_at state unwinder).modules; generation = state.next }); next = state.next + 1 }) state

  module _ (old : UnwinderView) (same : old ≡ unwinder_at state unwinder) where
    removal-started : (b : Bool) → has_start start old.modules ≡ b → refusal-of-removal ≡ removal-by b
    removal-started b e = ap removal-by (ap (has_start start) (modules-at state.unwinders unwinder ∙ sym (ap (λ (u : UnwinderView). u.modules) same)) ∙ e)

    pub removal-exhausted : has_start start old.modules ≡ true → state.next ≡ 2 ^ 64 - 1 → refusal-of-removal ≡ Some GenerationsExhausted
    removal-exhausted e last =
        let there : nat_lt unwinder (length (world_of state).unwinders) ≡ true = lt-ltb _ _ (omega (arith, length-map state.unwinders (λ (u : UnwinderView). u.modules))) in
        let none : ((2 ^ 64 - 1) - state.next == 0) ≡ true = eq-eqb _ _ (omega (arith, last)) in
        removal-started true e ∙ rw (there, none) refl

    module _ (new : UnwinderView) (next : ℕ) (absent : has_start start old.modules ≡ false → (new ≡ old) × (next ≡ state.next))
        (removed : has_start start old.modules ≡ true → (state.next < 2 ^ 64 - 1) × (new ≡ record { modules = without_module start old.modules; generation = state.next }) × (next ≡ state.next + 1)) where
      served-by : (b : Bool) → has_start start old.modules ≡ b → (refusal-of-removal ≡ None) × (record state { unwinders = slice_set state.unwinders unwinder new; next = next } ≡ after-removal b)
      served-by true e =
          let facts = removed e in (
            removal-started true e ∙ adds-allowed state unwinder within facts.0,
            CachedWorld-equal _ _
                (ap (slice_set state.unwinders unwinder) (facts.1 ∙ ap (λ (u : UnwinderView). record { modules = without_module start u.modules; generation = state.next }) same))
                facts.2
                refl,
          )
      served-by false e =
          let facts = absent e in (
            removal-started false e ∙ unwinder-allowed state unwinder None within refl,
            CachedWorld-equal _ _ (ap (slice_set state.unwinders unwinder) (facts.0 ∙ same) ∙ set-same state.unwinders unwinder _) facts.1 refl,
          )

      pub removal-served : (refusal-of-removal ≡ None) × (record state { unwinders = slice_set state.unwinders unwinder new; next = next } ≡ after-removal (has_start start (unwinder_at state unwinder).modules))
      removal-served = served-by (has_start start (unwinder_at state unwinder).modules) (ap (λ (u : UnwinderView). has_start start u.modules) same)

      drawn-by : (b : Bool) → has_start start old.modules ≡ b → state.next ≤ next
      drawn-by true e = omega (arith, (removed e).2)
      drawn-by false e = omega (arith, (absent e).1)

      pub removal-drawn : state.next ≤ next
      removal-drawn = drawn-by (has_start start old.modules) refl

-- ---- a state stays transparent

module _ {R Regs : Type 0} (unwinding : Unwinding R Regs) where
  no-entry : (caches next : ℕ) (c : CacheView R) (entry : Entry R) → Among c (empty_cached_world {R = R} caches next).caches → Stands entry c.sets → ⊥
  no-entry caches next c entry among stands =
      let same : empty_cache ≡ c = Among-replicate c empty_cache caches among in
      empty-stands entry (subst (λ (d : CacheView R). Stands entry d.sets) (sym same) stands)

  pub transparent-start : (caches next : ℕ) → IsTransparent unwinding (empty_cached_world {R = R} caches next)
  transparent-start caches next = record {
    sound = λ u c among _. absurd among;
    apart = λ u v among _ _. absurd among;
    drawn = λ u among. absurd among;
    stored = λ c entry among stands. absurd (no-entry caches next c entry among stands);
  }

  -- a cache knows nothing of a generation that was just drawn
  sound-drawn : (state : CachedWorld R) → IsTransparent unwinding state → (u : UnwinderView) → u.generation ≡ state.next → (c : CacheView R) → Among c state.caches → IsSound unwinding u c.sets
  sound-drawn state old u drawn c among = record {
    each = λ entry stands own. let below = old.stored c entry among stands in absurd (omega arith);
  }

  module _ (state : CachedWorld R) (old : IsTransparent unwinding state) where
    -- with an unwinder of a generation that was just drawn
    pub transparent-grown : (unwinders : List UnwinderView) (added : UnwinderView) → added.generation ≡ state.next → ((u : UnwinderView) → Among u unwinders → Among u state.unwinders ⊎ (added ≡ u)) → IsTransparent unwinding (record state { unwinders = unwinders; next = state.next + 1 })
    transparent-grown unwinders added drawn grown = record {
      sound = λ u c among in_caches.
          ⊎_elim
          (λ before. old.sound u c before in_caches)
          (λ e. sound-drawn state old u (ap (λ (v : UnwinderView). v.generation) (sym e) ∙ drawn) c in_caches)
          (grown u among);
      apart = λ u v among_u among_v same.
          ⊎_elim
          (λ before_u. ⊎_elim
          (λ before_v. old.apart u v before_u before_v same)
          (λ e. let g = ap (λ (w : UnwinderView). w.generation) e in let below = old.drawn u before_u in absurd (omega arith))
          (grown v among_v))
          (λ e. ⊎_elim
          (λ before_v. let g = ap (λ (w : UnwinderView). w.generation) e in let below = old.drawn v before_v in absurd (omega arith))
          (λ f. ap (λ (w : UnwinderView). w.modules) (sym e ∙ f))
          (grown v among_v))
          (grown u among_u);
      drawn = λ u among.
          ⊎_elim
          (λ before. let below = old.drawn u before in omega arith)
          (λ e. let g = ap (λ (w : UnwinderView). w.generation) e in omega arith)
          (grown u among);
      stored = λ c entry among stands. let below = old.stored c entry among stands in omega arith;
    }

    -- with another unwinder that is like one of them
    pub transparent-shared : (unwinders : List UnwinderView) → ((u : UnwinderView) → Among u unwinders → Among u state.unwinders) → IsTransparent unwinding (record state { unwinders = unwinders })
    transparent-shared unwinders known = record {
      sound = λ u c among in_caches. old.sound u c (known u among) in_caches;
      apart = λ u v among_u among_v same. old.apart u v (known u among_u) (known v among_v) same;
      drawn = λ u among. old.drawn u (known u among);
      stored = old.stored;
    }

    -- with an unwinder without a module, where there is that module
    pub transparent-removed : (unwinder start : ℕ) (b : Bool) → IsTransparent unwinding (cond b (record state { unwinders = slice_set state.unwinders unwinder (record { modules = without_module start (unwinder_at state unwinder).modules; generation = state.next }); next = state.next + 1 }) state)
    transparent-removed unwinder start true =
        transparent-grown _ (record { modules = without_module start (unwinder_at state unwinder).modules; generation = state.next }) refl (λ u h. Among-set u _ state.unwinders unwinder h)
    transparent-removed unwinder start false = old

    -- with a cache that an unwinder's steps extended
    pub transparent-cached : (caches : List (CacheView R)) (u : UnwinderView) (before after : CacheView R) → Among u state.unwinders → Among before state.caches → Extends unwinding u before.sets after.sets → ((c : CacheView R) → Among c caches → Among c state.caches ⊎ (after ≡ c)) → IsTransparent unwinding (record state { caches = caches })
    transparent-cached caches u before after among_u among_before extends replaced = record {
      sound = λ v c among_v among.
          ⊎_elim
          (λ kept. old.sound v c among_v kept)
          (λ e. subst (λ (d : CacheView R). IsSound unwinding v d.sets) e
          (IsSound-extended unwinding u v before.sets after.sets (old.apart u v among_u among_v) extends (old.sound v before among_v among_before)))
          (replaced c among);
      apart = old.apart;
      drawn = old.drawn;
      stored = λ c entry among stands.
          ⊎_elim
          (λ kept. old.stored c entry kept stands)
          (λ e. ⊎_elim
          (λ there. old.stored before entry among_before there)
          (λ added. let below = old.drawn u among_u in let g = added.generation in omega arith)
          (extends.each entry (subst (λ (d : CacheView R). Stands entry d.sets) (sym e) stands)))
          (replaced c among);
    }

  -- a command that is not refused leaves a transparent state
  pub transparent-after : {D : Type 0} (state : CachedWorld R) (command : Command D Regs) → refusal_of (length state.caches) (world_of state) command ≡ None → IsTransparent unwinding state → IsTransparent unwinding (cached_after unwinding state command)
  transparent-after state New allowed old =
      transparent-grown state old _ (record { modules = []; generation = state.next }) refl (λ u h. Among-push u _ state.unwinders h)
  transparent-after state (Add unwinder added) allowed old =
      transparent-grown state old _ (record { modules = with_module added (unwinder_at state unwinder).modules; generation = state.next }) refl (λ u h. Among-set u _ state.unwinders unwinder h)
  transparent-after state (Clone unwinder) allowed old =
      let within = clone-within state unwinder allowed in
      transparent-shared state old _ (λ u h.
      ⊎_elim
      (λ before. before)
      (λ e. subst (λ v. Among v state.unwinders) e (Among-index state.unwinders unwinder _ within))
      (Among-push u _ state.unwinders h))
  transparent-after state (Remove unwinder start) allowed old =
      transparent-removed state old unwinder start (has_start start (unwinder_at state unwinder).modules)
  transparent-after state (StepCommand unwinder cache address regs memory) allowed old =
      let stepper = unwinder_at state unwinder in
      let within = walk-within state unwinder cache allowed in
      transparent-cached state old _ stepper (cache_at state cache) _
      (Among-index state.unwinders unwinder _ within.0)
      (Among-index state.caches cache _ within.1)
      (Extends-after unwinding stepper (cache_at state cache) (location_of address))
      (λ c h. Among-set c _ state.caches cache h)
  transparent-after state (WalkCommand unwinder cache pc regs memory limit) allowed old =
      let walker = unwinder_at state unwinder in
      let within = walk-within state unwinder cache allowed in
      transparent-cached state old _ walker (cache_at state cache) _
      (Among-index state.unwinders unwinder _ within.0)
      (Among-index state.caches cache _ within.1)
      (Extends-walk unwinding walker (step_of unwinding walker (memory_of memory)) limit pc regs (cache_at state cache))
      (λ c h. Among-set c _ state.caches cache h)
  transparent-after state (Stats cache) allowed old = old
