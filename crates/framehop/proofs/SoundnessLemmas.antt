-- A lookup in a sound cache, and what an insert leaves standing.
use Rattle.std.proofs.Common.{eqb-true, ◌≡◌, ◌≢◌, ℕ, zero, suc, Bool, true, false, not, cond, ◌&&◌, ◌==◌, ◌⊎◌, List, [], ◌∷◌, take, filter, find, slice_index_or, slice_set, replicate, Option, Some, None, Result, Ok, Err, refl, sym, ap, ◌∙◌, subst, inl, inr, ⊎_elim}
use Rattle.std.proofs.lemmas.Bool.{and_parts}
use mathlib.Core.Bool.{beq}
use Rattle.framehop_core.specs.CodeAddress.{FrameLocation, lookup_address, is_first_frame}
use Rattle.framehop_cache.specs.Cache.{Key, Entry, Sets, CacheView, Found, hit, empty_slot, wrong_modules, wrong_address, found, hit_or, inserted, inserted_in, same_key, set_of, set_number, counted, ways, empty_cache, set_count}
use Rattle.framehop_core.specs.Memory.{Memory}
use Rattle.framehop_cache.specs.CacheResult.{result_of}
use Rattle.framehop_cache.specs.declared.rule_cache.CacheResult.TheVariants.{Hit, Miss}
use Rattle.framehop.specs.Answer.{Fresh, by_rule, direct}
use Rattle.framehop.specs.Unwinding.{Unwinding}
use Rattle.framehop_core.specs.declared.error.Error.{Error}
use Rattle.framehop_core.specs.declared.error.Error.TheVariants.{CouldNotReadStack, FramepointerUnwindingMovedBackwards, DidNotAdvance, IntegerOverflow, ReturnAddressIsNull, OutOfMemory}
use Rattle.framehop.specs.Fresh.{fresh, outcome_of, step}
use Rattle.framehop.specs.Modules.{ModuleView, UnwinderView}
use Rattle.framehop.specs.Soundness.{Among, Stands, IsFresh, IsSound, Extends, AreApart, key_of, sets_after, sets_after_miss, cache_after, cache_after_lookup}

-- ---- what is among a list

Among-take : {A : Type 0} (x : A) (n : ℕ) (xs : List A) → Among x (take n xs) → Among x xs
Among-take x zero xs h = absurd h
Among-take x (suc n) [] h = h
Among-take x (suc n) (y ∷ ys) (inl e) = inl e
Among-take x (suc n) (y ∷ ys) (inr h) = inr (Among-take x n ys h)

Among-kept : {A : Type 0} (x : A) (test : A → Bool) (y : A) (ys : List A) (b : Bool) → (Among x (filter test ys) → Among x ys) → Among x (cond b (y ∷ filter test ys) (filter test ys)) → Among x (y ∷ ys)
Among-kept x test y ys true rest (inl e) = inl e
Among-kept x test y ys true rest (inr h) = inr (rest h)
Among-kept x test y ys false rest h = inr (rest h)

Among-filter : {A : Type 0} (x : A) (test : A → Bool) (ys : List A) → Among x (filter test ys) → Among x ys
Among-filter x test [] h = h
Among-filter x test (y ∷ ys) h = Among-kept x test y ys (test y) (Among-filter x test ys) h

Among-found : {A : Type 0} (x y : A) (test : A → Bool) (ys : List A) (b : Bool) → b ≡ test y → (find test ys ≡ Some x → Among x ys × (test x ≡ true)) → cond b (Some y) (find test ys) ≡ Some x → Among x (y ∷ ys) × (test x ≡ true)
Among-found x y test ys true is rest e = let same : y ≡ x = cc in (inl same, ap test (sym same) ∙ sym is)
Among-found x y test ys false is rest e = (inr (rest e).0, (rest e).1)

-- what is found is among the list, and passes the test
Among-find : {A : Type 0} (x : A) (test : A → Bool) (ys : List A) → find test ys ≡ Some x → Among x ys × (test x ≡ true)
Among-find x test [] e = cc
Among-find x test (y ∷ ys) e = Among-found x y test ys (test y) refl (Among-find x test ys) e

-- ---- what stands in the sets

Stands-index : {R : Type 0} (entry : Entry R) (sets : Sets R) (i : ℕ) → Among entry (slice_index_or sets i []) → Stands entry sets
Stands-index entry [] i h = h
Stands-index entry (set ∷ sets) zero h = inl h
Stands-index entry (set ∷ sets) (suc i) h = inr (Stands-index entry sets i h)

Stands-set : {R : Type 0} (entry : Entry R) (sets : Sets R) (i : ℕ) (new : List (Entry R)) → Stands entry (slice_set sets i new) → Stands entry sets ⊎ Among entry new
Stands-set entry [] i new h = inl h
Stands-set entry (set ∷ sets) zero new (inl h) = inr h
Stands-set entry (set ∷ sets) zero new (inr h) = inl (inr h)
Stands-set entry (set ∷ sets) (suc i) new (inl h) = inl (inl h)
Stands-set entry (set ∷ sets) (suc i) new (inr h) =
    ⊎_elim (λ old. inl (inr old)) (λ added. inr added) (Stands-set entry sets i new h)

-- among a set with a new entry before what is kept of it
Among-renewed : {R : Type 0} (entry new : Entry R) (set : List (Entry R)) (kept : Entry R → Bool) → Among entry (new ∷ filter kept set) → Among entry set ⊎ (new ≡ entry)
Among-renewed entry new set kept (inl e) = inr e
Among-renewed entry new set kept (inr h) = inl (Among-filter entry kept set h)

Among-inserted : {R : Type 0} (entry new : Entry R) (set : List (Entry R)) → Among entry (inserted_in ways new set) → Among entry set ⊎ (new ≡ entry)
Among-inserted {R} entry new set h =
    let kept : Entry R → Bool = λ other. not (same_key other.key new.key) in
    Among-renewed entry new set kept (Among-take entry ways (new ∷ filter kept set) h)

-- after an insert each entry is the new one, or stood there before
Stands-inserted : {R : Type 0} (entry new : Entry R) (sets : Sets R) → Stands entry (inserted ways sets new) → Stands entry sets ⊎ (new ≡ entry)
Stands-inserted entry new sets h =
    let set = set_of sets new.key.address in
    let i = set_number new.key.address in
    ⊎_elim
    (λ old. inl old)
    (λ added. ⊎_elim (λ old. inl (Stands-index entry sets i old)) (λ e. inr e) (Among-inserted entry new set added))
    (Stands-set entry sets i (inserted_in ways new set) h)

none-stands : {R : Type 0} (entry : Entry R) (n : ℕ) → Stands entry (replicate n []) → ⊥
none-stands entry zero h = h
none-stands entry (suc n) (inl h) = h
none-stands entry (suc n) (inr h) = none-stands entry n h

-- nothing is stored in an empty cache
pub empty-stands : {R : Type 0} (entry : Entry R) → Stands entry empty_cache.sets → ⊥
empty-stands entry h = none-stands entry set_count h

-- ---- keys

beq-true : (a b : Bool) → beq a b ≡ true → a ≡ b
beq-true true true e = refl
beq-true false false e = refl
beq-true true false e = cc
beq-true false true e = cc

key-from_parts : (a b : Key) → a.address ≡ b.address → a.generation ≡ b.generation → a.is_first_frame ≡ b.is_first_frame → a ≡ b
key-from_parts a b p q r = λ i. record { address = p i; generation = q i; is_first_frame = r i }

same_key-true : (a b : Key) → same_key a b ≡ true → a ≡ b
same_key-true a b h =
    let outer = and_parts ((a.address == b.address) && (a.generation == b.generation)) (beq a.is_first_frame b.is_first_frame) h in
    let inner = and_parts (a.address == b.address) (a.generation == b.generation) outer.0 in
    key-from_parts a b (eqb-true a.address b.address inner.0) (eqb-true a.generation b.generation inner.1) (beq-true a.is_first_frame b.is_first_frame outer.1)

-- ---- lookups

-- what is not a hit
miss-no_hit : {R : Type 0} (state other : Bool) (rule : R) → (cond state empty_slot (cond other wrong_address wrong_modules)) ≡ hit rule → ⊥
miss-no_hit true other rule e = cc
miss-no_hit false true rule e = cc
miss-no_hit false false rule e = cc

hit_or-hit : {R : Type 0} (o : Option (Entry R)) (other : Found R) (rule : R) → (other ≡ hit rule → ⊥) → hit_or o other ≡ hit rule → (entry : Entry R) × (o ≡ Some entry) × (entry.rule ≡ rule)
hit_or-hit (Some entry) other rule none e = (entry, refl, cc)
hit_or-hit None other rule none e = absurd (none e)

-- a hit is an entry of the key that stands in the sets
hit-stands : {R : Type 0} (sets : Sets R) (key : Key) (rule : R) → found ways sets key ≡ hit rule → (entry : Entry R) × Stands entry sets × (entry.key ≡ key) × (entry.rule ≡ rule)
hit-stands {R} sets key rule e =
    let set = set_of sets key.address in
    let test : Entry R → Bool = λ entry. same_key entry.key key in
    let there = hit_or-hit (find test set) _ rule (miss-no_hit _ _ rule) e in
    let among = Among-find there.0 test set there.1 in
    (there.0, Stands-index there.0 sets (set_number key.address) among.0, same_key-true there.0.key key among.1, there.2)

module _ {R Regs : Type 0} (unwinding : Unwinding R Regs) where
  -- an empty cache is sound
  pub IsSound-empty : (unwinder : UnwinderView) → IsSound unwinding unwinder empty_cache.sets
  IsSound-empty unwinder = record { each = λ entry stands own. absurd (empty-stands entry stands) }

  -- in a sound cache a hit is what the modules give afresh
  pub fresh-hit : (unwinder : UnwinderView) (sets : Sets R) (location : FrameLocation) (rule : R) → IsSound unwinding unwinder sets → found ways sets (key_of unwinder location) ≡ hit rule → fresh unwinding unwinder.modules (lookup_address location) (is_first_frame location) ≡ by_rule rule
  fresh-hit unwinder sets location rule sound e =
      let there = hit-stands sets (key_of unwinder location) rule e in
      let own = ap (λ key. key.generation) there.2 in
      let known = (sound.each there.0 there.1 own).rule in
      ap (λ key. fresh unwinding unwinder.modules key.address key.is_first_frame) (sym there.2) ∙ known ∙ ap by_rule there.3

  Extends-refl : (unwinder : UnwinderView) (sets : Sets R) → Extends unwinding unwinder sets sets
  Extends-refl unwinder sets = record { each = λ entry h. inl h }

  Extends-miss : (unwinder : UnwinderView) (sets : Sets R) (location : FrameLocation) (answer : Fresh R Regs) → fresh unwinding unwinder.modules (lookup_address location) (is_first_frame location) ≡ answer → Extends unwinding unwinder sets (sets_after_miss sets (key_of unwinder location) answer)
  Extends-miss unwinder sets location (by_rule rule) is = record {
    each = λ entry h.
        ⊎_elim
        (λ old. inl old)
        (λ e. inr (subst (IsFresh unwinding unwinder) e (record { generation = refl; rule = is })))
        (Stands-inserted entry (record { key = key_of unwinder location; rule = rule }) sets h);
  }
  Extends-miss unwinder sets location (direct values) is = Extends-refl unwinder sets

  Extends-found : (unwinder : UnwinderView) (sets : Sets R) (location : FrameLocation) (seen : Found R) → Extends unwinding unwinder sets (sets_after sets (key_of unwinder location) seen (fresh unwinding unwinder.modules (lookup_address location) (is_first_frame location)))
  Extends-found unwinder sets location (hit rule) = Extends-refl unwinder sets
  Extends-found unwinder sets location empty_slot = Extends-miss unwinder sets location _ refl
  Extends-found unwinder sets location wrong_modules = Extends-miss unwinder sets location _ refl
  Extends-found unwinder sets location wrong_address = Extends-miss unwinder sets location _ refl

  -- a step extends the cache by what the modules give afresh
  pub Extends-after : (unwinder : UnwinderView) (cache : CacheView R) (location : FrameLocation) → Extends unwinding unwinder cache.sets (cache_after unwinding unwinder cache location).sets
  unfolding cache_after
  Extends-after unwinder cache location = Extends-found unwinder cache.sets location (found ways cache.sets (key_of unwinder location))

  -- a cache stays sound for each unwinder that has other modules only under another generation
  pub IsSound-extended : (unwinder other : UnwinderView) (old new : Sets R) → AreApart unwinder other → Extends unwinding unwinder old new → IsSound unwinding other old → IsSound unwinding other new
  IsSound-extended unwinder other old new apart extends sound = record {
    each = λ entry h own.
        ⊎_elim
        (λ before. sound.each entry before own)
        (λ added. record {
          generation = own;
          rule = ap (λ modules. fresh unwinding modules entry.key.address entry.key.is_first_frame) (sym (apart (sym added.generation ∙ own))) ∙ added.rule;
        })
        (extends.each entry h);
  }

  -- ---- the cache after a step, by what the lookup answered

  CacheView-equal : (a b : CacheView R) → a.sets ≡ b.sets → a.stats ≡ b.stats → a ≡ b
  CacheView-equal a b p q = λ i. record { sets = p i; stats = q i }

  hit-answered : (key : Key) (seen : Found R) (rule : R) → result_of key seen ≡ Hit rule → seen ≡ hit rule
  hit-answered key (hit other) rule e = cc
  hit-answered key empty_slot rule e = cc
  hit-answered key wrong_modules rule e = cc
  hit-answered key wrong_address rule e = cc

  miss-answered : (sets : Sets R) (key handle : Key) (seen : Found R) (answer : Fresh R Regs) → result_of key seen ≡ Miss handle → (key ≡ handle) × (sets_after sets key seen answer ≡ sets_after_miss sets key answer)
  miss-answered sets key handle (hit rule) answer e = cc
  miss-answered sets key handle empty_slot answer e = (cc, refl)
  miss-answered sets key handle wrong_modules answer e = (cc, refl)
  miss-answered sets key handle wrong_address answer e = (cc, refl)

  module _ (unwinder : UnwinderView) (cache : CacheView R) (location : FrameLocation) where
    pub cache_after-hit : (new : CacheView R) (rule : R) → new.sets ≡ cache.sets → new.stats ≡ counted cache.stats (found ways cache.sets (key_of unwinder location)) → result_of (key_of unwinder location) (found ways cache.sets (key_of unwinder location)) ≡ Hit rule → new ≡ cache_after unwinding unwinder cache location
    unfolding cache_after
    cache_after-hit new rule kept counts e =
        let s = hit-answered (key_of unwinder location) (found ways cache.sets (key_of unwinder location)) rule e in
        let answer : Fresh R Regs = fresh unwinding unwinder.modules (lookup_address location) (is_first_frame location) in
        CacheView-equal new (cache_after unwinding unwinder cache location)
        (kept ∙ sym (ap (λ f. sets_after cache.sets (key_of unwinder location) f answer) s)) counts

    -- a hit in a sound cache steps as the modules' bytes say
    pub step-hit : (rule : R) (regs : Regs) (memory : Memory) → IsSound unwinding unwinder cache.sets → result_of (key_of unwinder location) (found ways cache.sets (key_of unwinder location)) ≡ Hit rule → unwinding.outcome rule (is_first_frame location) regs memory ≡ step unwinding unwinder.modules location regs memory
    unfolding step
    step-hit rule regs memory sound e =
        let known = fresh-hit unwinder cache.sets location rule sound (hit-answered (key_of unwinder location) (found ways cache.sets (key_of unwinder location)) rule e) in
        rw known refl

    pub cache_after-miss : (between new : CacheView R) (handle : Key) (answer : Fresh R Regs) → between.sets ≡ cache.sets → between.stats ≡ counted cache.stats (found ways cache.sets (key_of unwinder location)) → result_of (key_of unwinder location) (found ways cache.sets (key_of unwinder location)) ≡ Miss handle → fresh unwinding unwinder.modules (lookup_address location) (is_first_frame location) ≡ answer → new ≡ record between { sets = sets_after_miss between.sets handle answer } → new ≡ cache_after unwinding unwinder cache location
    unfolding cache_after
    cache_after-miss between new handle answer kept counts e known is =
        let key = key_of unwinder location in
        let m = miss-answered cache.sets key handle (found ways cache.sets key) answer e in
        let stored : sets_after_miss between.sets handle answer ≡ sets_after_miss cache.sets key answer =
        ap (λ k. sets_after_miss between.sets k answer) (sym m.0) ∙ ap (λ sets. sets_after_miss sets key answer) kept in
        CacheView-equal new (cache_after unwinding unwinder cache location)
        (ap (λ (c : CacheView R). c.sets) is ∙ stored ∙ sym m.1 ∙ ap (sets_after cache.sets key (found ways cache.sets key)) (sym known))
        (ap (λ (c : CacheView R). c.stats) is ∙ counts)

    pub cache_after_lookup-miss : (new : CacheView R) → new.sets ≡ cache.sets → new.stats ≡ counted cache.stats (found ways cache.sets (key_of unwinder location)) → new ≡ cache_after_lookup unwinder cache location
    unfolding cache_after_lookup
    cache_after_lookup-miss new kept counts = CacheView-equal new (cache_after_lookup unwinder cache location) kept counts

    pub missed : (handle : Key) → result_of (key_of unwinder location) (found ways cache.sets (key_of unwinder location)) ≡ Miss handle → (rule : R) → found ways cache.sets (key_of unwinder location) ≢ hit rule
    missed handle e rule is = let hit-is = sym (ap (result_of (key_of unwinder location)) is) ∙ e in cc

    pub Extends-same : (sets : Sets R) → sets ≡ cache.sets → Extends unwinding unwinder cache.sets sets
    Extends-same sets same = subst (Extends unwinding unwinder cache.sets) (sym same) (Extends-refl unwinder cache.sets)

  -- the answer for an address and a kind that are those of a location
  pub fresh-at : (modules : List ModuleView) (location : FrameLocation) (address : ℕ) (first : Bool) → address ≡ lookup_address location → first ≡ is_first_frame location → fresh unwinding modules (lookup_address location) (is_first_frame location) ≡ fresh unwinding modules address first
  fresh-at modules location address first at kind =
      ap (λ a. fresh unwinding modules a (is_first_frame location)) (sym at) ∙ ap (fresh unwinding modules address) (sym kind)

  -- its step
  pub step-at : (modules : List ModuleView) (location : FrameLocation) (address : ℕ) (first : Bool) (regs : Regs) (memory : Memory) → address ≡ lookup_address location → first ≡ is_first_frame location → outcome_of unwinding (fresh unwinding modules address first) first regs memory ≡ step unwinding modules location regs memory
  unfolding step
  step-at modules location address first regs memory at kind = rw (at, kind) refl

-- memory ran out, or not
pub out-or-not : {A : Type 0} (result : Result A Error) → (result ≡ Err OutOfMemory) ⊎ (result ≢ Err OutOfMemory)
out-or-not (Ok x) = inr (λ e. cc)
out-or-not (Err OutOfMemory) = inl refl
out-or-not (Err (CouldNotReadStack address)) = inr (λ e. cc)
out-or-not (Err FramepointerUnwindingMovedBackwards) = inr (λ e. cc)
out-or-not (Err DidNotAdvance) = inr (λ e. cc)
out-or-not (Err IntegerOverflow) = inr (λ e. cc)
out-or-not (Err ReturnAddressIsNull) = inr (λ e. cc)
