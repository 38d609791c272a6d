-- Mappings in order: where an address parts them, and what their modules are.
use Rattle.std.proofs.Common.{
  ◌≡◌,
  ℕ,
  zero,
  suc,
  ◌+◌,
  ◌-◌,
  ◌<◌,
  ◌≤◌,
  Bool,
  true,
  false,
  nat_le,
  nat_lt,
  ◌==◌,
  ◌&&◌,
  min,
  max,
  List,
  [],
  ◌∷◌,
  ◌++◌,
  length,
  take,
  drop,
  filter,
  map,
  slice_get,
  slice_index_or,
  Some,
  get_or,
  refl,
  ap,
  sym,
  ◌∙◌,
  arith,
  subst,
}
use Rattle.std.proofs.Math.Seq.{drop-cons}
use Rattle.std.proofs.lemmas.Bool.{leb-true, leb-false, ltb-true, ltb-false, le-leb, lt-leb, eq-eqb, ne_eqb, or_right, cond_both}
use Rattle.std.proofs.lemmas.List.{length-append, length-take, map-append, take-append-drop, take_more}
use Rattle.std.proofs.lemmas.List.Elements.{filter-append}
use Rattle.std.specs.List.Sorted.{IsNonDecreasingBy, IsPartitionPoint}
use Rattle.framehop.specs.Loaded.{with_modules}
use Rattle.framehop.specs.Modules.{ModuleView, with_module, has_start, without_module, starts_by, starting_by, starting_above, greatest_end}
use Rattle.framehop.proofs.ModuleLemmas.{filter-divided, filter-behind}
use Rattle.framehop_processes.specs.declared.mapping.Mapping.{Mapping}
use Rattle.framehop_processes.specs.Mappings.{IsInOrder, part_below, part_above, below, above, with_mapping, ending_by, starting_from, overlapped, greatest_end_of}
use Rattle.framehop_processes.specs.Process.{StartsAt, EndsAt}

-- ---- starts and ends rise

starts-from : (from : ℕ) (ms : List Mapping) → IsInOrder from ms → (k : ℕ) (d : Mapping) → k < length ms → from ≤ (slice_index_or ms k d).start
starts-from from [] order k d within = absurd (omega (arith, within))
starts-from from (m ∷ ms) order zero d within = order.0
starts-from from (m ∷ ms) order (suc k) d within =
    let rest = starts-from m.end ms order.2 k d (omega (arith, within)) in
    let own = order.1 in
    let first = order.0 in
    omega (arith, rest, own, first)

not-empty : (from : ℕ) (ms : List Mapping) → IsInOrder from ms → (k : ℕ) (d : Mapping) → k < length ms → (slice_index_or ms k d).start < (slice_index_or ms k d).end
not-empty from [] order k d within = absurd (omega (arith, within))
not-empty from (m ∷ ms) order zero d within = order.1
not-empty from (m ∷ ms) order (suc k) d within = not-empty m.end ms order.2 k d (omega (arith, within))

pub starts-rise : (from : ℕ) (ms : List Mapping) → IsInOrder from ms → IsNonDecreasingBy (λ m. m.start) ms
starts-rise from [] order i j d low within = absurd (omega (arith, within))
starts-rise from (m ∷ ms) order zero zero d low within = omega arith
starts-rise from (m ∷ ms) order zero (suc j) d low within =
    let later = starts-from m.end ms order.2 j d (omega (arith, within)) in
    let own = order.1 in
    omega (arith, later, own)
starts-rise from (m ∷ ms) order (suc i) zero d low within = absurd (omega (arith, low))
starts-rise from (m ∷ ms) order (suc i) (suc j) d low within =
    starts-rise m.end ms order.2 i j d (omega (arith, low)) (omega (arith, within))

pub ends-rise : (from : ℕ) (ms : List Mapping) → IsInOrder from ms → IsNonDecreasingBy (λ m. m.end) ms
ends-rise from [] order i j d low within = absurd (omega (arith, within))
ends-rise from (m ∷ ms) order zero zero d low within = omega arith
ends-rise from (m ∷ ms) order zero (suc j) d low within =
    let later = starts-from m.end ms order.2 j d (omega (arith, within)) in
    let own = not-empty m.end ms order.2 j d (omega (arith, within)) in
    omega (arith, later, own)
ends-rise from (m ∷ ms) order (suc i) zero d low within = absurd (omega (arith, low))
ends-rise from (m ∷ ms) order (suc i) (suc j) d low within =
    ends-rise m.end ms order.2 i j d (omega (arith, low)) (omega (arith, within))

-- ---- the mappings at a place

pub taken-ending_by : (address : ℕ) (ms : List Mapping) (i : ℕ) → IsPartitionPoint (λ m. nat_le m.end address ≡ true) (λ m. nat_le m.end address ≡ false) ms i → take i ms ≡ ending_by address ms
taken-ending_by address ms i point =
    sym (filter-divided (λ m. nat_le m.end address) ms i (λ k d h. point.0 k d (omega arith) h) point.1)

pub dropped-starting_from : (address : ℕ) (ms : List Mapping) (i : ℕ)
    → IsPartitionPoint (λ m. nat_lt m.start address ≡ true) (λ m. nat_lt m.start address ≡ false) ms i
    → drop i ms ≡ starting_from address ms
dropped-starting_from address ms i point =
    sym (filter-behind (λ m. nat_le address m.start) ms i
    (λ k d h. lt-leb _ _ (ltb-true _ _ (point.0 k d (omega arith) h)))
    (λ k d h within. le-leb _ _ (ltb-false _ _ (point.1 k d h within))))

-- ---- order is kept

pub weaker-order : (low from : ℕ) (ms : List Mapping) → low ≤ from → IsInOrder from ms → IsInOrder low ms
weaker-order low from [] less order = tt
weaker-order low from (m ∷ ms) less order = (let first = order.0 in omega (arith, less, first), order.1, order.2)

pub order-dropped : (i : ℕ) (from : ℕ) (ms : List Mapping) → IsInOrder from ms → IsInOrder from (drop i ms)
order-dropped zero from ms order = order
order-dropped (suc i) from [] order = tt
order-dropped (suc i) from (m ∷ ms) order =
    let first = order.0 in
    let own = order.1 in
    weaker-order from m.end (drop i ms) (omega (arith, first, own)) (order-dropped i m.end ms order.2)

-- each ends at or below an address
abbrev pub EndBy : ℕ → List Mapping → Type 0
EndBy address [] = Unit {0}
EndBy address (m ∷ ms) = (m.end ≤ address) × EndBy address ms

pub ending_by-ends : (address : ℕ) (ms : List Mapping) → EndBy address (ending_by address ms)
ending_by-ends address [] = tt
ending_by-ends address (m ∷ ms) =
    let rest = ending_by-ends address ms in
    cond_both (nat_le m.end address) (m ∷ ending_by address ms) (ending_by address ms) (EndBy address)
    (λ is. (leb-true _ _ is, rest)) (λ is. rest)

all-from : (address from : ℕ) (ms : List Mapping) → IsInOrder from ms → address ≤ from → starting_from address ms ≡ ms
all-from address from [] order low = refl
all-from address from (m ∷ ms) order low =
    let first = order.0 in
    let own = order.1 in
    let here : nat_le address m.start ≡ true = le-leb _ _ (omega (arith, low, first)) in
    rw here (ap (λ others. m ∷ others) (all-from address m.end ms order.2 (omega (arith, low, first, own))))

pub starting_from-starts : (address from : ℕ) (ms : List Mapping) → IsInOrder from ms → IsInOrder address (starting_from address ms)
starting_from-starts address from [] order = tt
starting_from-starts address from (m ∷ ms) order =
    let rest = starting_from-starts address m.end ms order.2 in
    let own = order.1 in
    cond_both (nat_le address m.start) (m ∷ starting_from address ms) (starting_from address ms) (IsInOrder address)
    (λ is. let here = leb-true _ _ is in (here, own, rw (all-from address m.end ms order.2 (omega (arith, here, own))) order.2)) (λ is. rest)

order-between : (from : ℕ) (new : Mapping) (before after : List Mapping) → IsInOrder from before
    → EndBy new.start before → new.start < new.end → IsInOrder new.end after → from ≤ new.start
    → IsInOrder from (before ++ new ∷ after)
order-between from new [] after order ends some starts low = (low, some, starts)
order-between from new (m ∷ before) after order ends some starts low =
    (order.0, order.1, order-between m.end new before after order.2 ends.1 some starts ends.0)

-- ---- what lies below an address, and above one

below-order : (address from : ℕ) (ms : List Mapping) → IsInOrder from ms → IsInOrder from (below address ms) × EndBy address (below address ms)
below-order address from [] order = (tt, tt)
below-order address from (m ∷ ms) order =
    let rest = below-order address m.end ms order.2 in
    let first = order.0 in
    let own = order.1 in
    cond_both (nat_lt m.start address) (m ∷ filter (λ n. nat_lt n.start address) ms) (filter (λ n. nat_lt n.start address) ms)
    (λ kept. IsInOrder from (map (part_below address) kept) × EndBy address (map (part_below address) kept))
    (λ is. let here = ltb-true _ _ is in
    ((first, omega (arith, own, here), weaker-order (min m.end address) m.end (below address ms) (omega arith) rest.0), (omega arith, rest.1)))
    (λ is. (weaker-order from m.end (below address ms) (omega (arith, first, own)) rest.0, rest.1))

above-order : (address from : ℕ) (ms : List Mapping) → IsInOrder from ms → IsInOrder (max from address) (above address ms)
above-order address from [] order = tt
above-order address from (m ∷ ms) order =
    let rest = above-order address m.end ms order.2 in
    let first = order.0 in
    let own = order.1 in
    cond_both (nat_lt address m.end) (m ∷ filter (λ n. nat_lt address n.end) ms) (filter (λ n. nat_lt address n.end) ms)
    (λ kept. IsInOrder (max from address) (map (part_above address) kept))
    (λ is. let here = ltb-true _ _ is in
    (omega (arith, first), omega (arith, own, here), weaker-order m.end (max m.end address) (above address ms) (omega arith) rest))
    (λ is. weaker-order (max from address) (max m.end address) (above address ms) (omega (arith, first, own)) rest)

-- mappings stay in order with a new one
pub with_mapping-order : (new : Mapping) (ms : List Mapping) → new.start < new.end → IsInOrder 0 ms → IsInOrder 0 (with_mapping new ms)
with_mapping-order new ms some order =
    let lower = below-order new.start 0 ms order in
    order-between 0 new (below new.start ms) (above new.end ms) lower.0 lower.1 some
    (weaker-order new.end (max 0 new.end) (above new.end ms) (omega arith) (above-order new.end 0 ms order)) (omega arith)

-- ---- the parts of the mappings around a new one

below-all : (address from : ℕ) (ms : List Mapping) → IsInOrder from ms → EndBy address ms → below address ms ≡ ms
below-all address from [] order ends = refl
below-all address from (m ∷ ms) order ends =
    let own = order.1 in
    let end = ends.0 in
    let here : nat_lt m.start address ≡ true = le-leb _ _ (omega (arith, own, end)) in
    let same : min m.end address ≡ m.end = omega (arith, end) in
    rw (here, same) (ap (λ others. m ∷ others) (below-all address m.end ms order.2 ends.1))

below-none : (address from : ℕ) (ms : List Mapping) → IsInOrder from ms → address ≤ from → below address ms ≡ []
below-none address from [] order low = refl
below-none address from (m ∷ ms) order low =
    let first = order.0 in
    let own = order.1 in
    let here : nat_lt m.start address ≡ false = lt-leb _ _ (omega (arith, first, low)) in
    rw here (below-none address m.end ms order.2 (omega (arith, first, own, low)))

above-all : (address from : ℕ) (ms : List Mapping) → IsInOrder from ms → address ≤ from → above address ms ≡ ms
above-all address from [] order low = refl
above-all address from (m ∷ ms) order low =
    let first = order.0 in
    let own = order.1 in
    let here : nat_lt address m.end ≡ true = le-leb _ _ (omega (arith, first, own, low)) in
    let same : max m.start address ≡ m.start = omega (arith, first, low) in
    rw (here, same) (ap (λ others. m ∷ others) (above-all address m.end ms order.2 (omega (arith, first, own, low))))

above-none : (address : ℕ) (ms : List Mapping) → EndBy address ms → above address ms ≡ []
above-none address [] ends = refl
above-none address (m ∷ ms) ends =
    let end = ends.0 in
    let here : nat_lt address m.end ≡ false = lt-leb _ _ (omega (arith, end)) in
    rw here (above-none address ms ends.1)

pub ends-later : (low high : ℕ) (ms : List Mapping) → low ≤ high → EndBy low ms → EndBy high ms
ends-later low high [] less ends = tt
ends-later low high (m ∷ ms) less ends = (let end = ends.0 in omega (arith, end, less), ends-later low high ms less ends.1)

below-append : (address : ℕ) (xs ys : List Mapping) → below address (xs ++ ys) ≡ below address xs ++ below address ys
below-append address xs ys =
    ap (map (part_below address)) (filter-append (λ m. nat_lt m.start address) xs ys)
    ∙ map-append (part_below address) (filter (λ m. nat_lt m.start address) xs) (filter (λ m. nat_lt m.start address) ys)

above-append : (address : ℕ) (xs ys : List Mapping) → above address (xs ++ ys) ≡ above address xs ++ above address ys
above-append address xs ys =
    ap (map (part_above address)) (filter-append (λ m. nat_lt address m.end) xs ys)
    ∙ map-append (part_above address) (filter (λ m. nat_lt address m.end) xs) (filter (λ m. nat_lt address m.end) ys)

pub append-empty : {A : Type 0} (xs : List A) → xs ++ [] ≡ xs
append-empty [] = refl
append-empty (x ∷ xs) = ap (λ rest. x ∷ rest) (append-empty xs)

pub append-parts : {A : Type 0} (xs ys zs : List A) → (xs ++ ys) ++ zs ≡ xs ++ (ys ++ zs)
append-parts [] ys zs = refl
append-parts (x ∷ xs) ys zs = ap (λ rest. x ∷ rest) (append-parts xs ys zs)

pub order-front : (from : ℕ) (xs ys : List Mapping) → IsInOrder from (xs ++ ys) → IsInOrder from xs
order-front from [] ys order = tt
order-front from (x ∷ xs) ys order = (order.0, order.1, order-front x.end xs ys order.2)

pub order-back : (from : ℕ) (xs ys : List Mapping) → IsInOrder from (xs ++ ys) → IsInOrder from ys
order-back from [] ys order = order
order-back from (x ∷ xs) ys order =
    let first = order.0 in
    let own = order.1 in
    weaker-order from x.end ys (omega (arith, first, own)) (order-back x.end xs ys order.2)

-- ---- a mapping between those before it and those after it

starts-past : (from : ℕ) (m : Mapping) (before after : List Mapping) → IsInOrder from (before ++ m ∷ after) → from ≤ m.start
starts-past from m [] after order = order.0
starts-past from m (x ∷ before) after order =
    let first = order.0 in
    let own = order.1 in
    let rest = starts-past x.end m before after order.2 in
    omega (arith, first, own, rest)

pub ends-before : (from : ℕ) (m : Mapping) (before after : List Mapping) → IsInOrder from (before ++ m ∷ after) → EndBy m.start before
ends-before from m [] after order = tt
ends-before from m (x ∷ before) after order =
    (starts-past x.end m before after order.2, ends-before x.end m before after order.2)

module _ (address : ℕ) (m : Mapping) (before after : List Mapping) (order : IsInOrder 0 (before ++ m ∷ after)) where
  behind : IsInOrder m.start (m ∷ after)
  behind = let own = order-back 0 before (m ∷ after) order in (omega arith, own.1, own.2)

  pub order-before : IsInOrder 0 before
  order-before = order-front 0 before (m ∷ after) order

  pub order-after : IsInOrder 0 after
  order-after = weaker-order 0 m.end after (omega arith) behind.2

  pub below-before : address ≤ m.start → below address before ≡ below address (before ++ m ∷ after)
  below-before low = sym (
      below-append address before (m ∷ after)
      ∙ ap (λ back. below address before ++ back) (below-none address m.start (m ∷ after) behind low)
      ∙ append-empty (below address before))

  pub below-across : m.start < address → before ++ part_below address m ∷ below address after ≡ below address (before ++ m ∷ after)
  below-across high =
      let here : nat_lt m.start address ≡ true = le-leb _ _ (omega (arith, high)) in
      let front = below-all address 0 before order-before (ends-later m.start address before (omega (arith, high)) (ends-before 0 m before after order)) in
      sym (below-append address before (m ∷ after) ∙ rw (here, front) refl)

  pub above-after : m.end ≤ address → above address after ≡ above address (before ++ m ∷ after)
  above-after low =
      let own = behind.1 in
      let here : nat_lt address m.end ≡ false = lt-leb _ _ (omega (arith, low)) in
      let front = above-none address before (ends-later m.start address before (omega (arith, low, own)) (ends-before 0 m before after order)) in
      sym (above-append address before (m ∷ after) ∙ rw (here, front) refl)

  pub above-across : address < m.end → above address before ++ part_above address m ∷ after ≡ above address (before ++ m ∷ after)
  above-across high =
      let here : nat_lt address m.end ≡ true = le-leb _ _ (omega (arith, high)) in
      let back = above-all address m.end after behind.2 (omega (arith, high)) in
      sym (above-append address before (m ∷ after) ∙ rw (here, back) refl)

-- what is wholly before the new mapping or after it stays
module _ (new : Mapping) (some : new.start < new.end) (before middle after : List Mapping)
    (order : IsInOrder 0 (before ++ (middle ++ after))) (ends : EndBy new.start before)
    (starts : IsInOrder new.end after) where
  below-parts : below new.start (before ++ (middle ++ after)) ≡ before ++ below new.start middle
  below-parts =
      below-append new.start before (middle ++ after)
      ∙ ap (λ front. front ++ below new.start (middle ++ after)) (below-all new.start 0 before (order-front 0 before (middle ++ after) order) ends)
      ∙ ap (λ back. before ++ back) (below-append new.start middle after
      ∙ ap (λ back. below new.start middle ++ back) (below-none new.start new.end after starts (omega (arith, some)))
      ∙ append-empty (below new.start middle))

  above-parts : above new.end (before ++ (middle ++ after)) ≡ above new.end middle ++ after
  above-parts =
      above-append new.end before (middle ++ after)
      ∙ ap (λ front. front ++ above new.end (middle ++ after)) (above-none new.end before (ends-later new.start new.end before (omega (arith, some)) ends))
      ∙ above-append new.end middle after
      ∙ ap (λ back. above new.end middle ++ back) (above-all new.end new.end after starts (omega arith))

  pub parts-joined : before ++ (with_mapping new middle ++ after) ≡ with_mapping new (before ++ (middle ++ after))
  parts-joined =
      ap (λ rest. before ++ rest) (append-parts (below new.start middle) (new ∷ above new.end middle) after)
      ∙ sym (append-parts before (below new.start middle) (new ∷ (above new.end middle ++ after)))
      ∙ ap (λ front. front ++ new ∷ (above new.end middle ++ after)) (sym below-parts)
      ∙ ap (λ back. below new.start (before ++ (middle ++ after)) ++ new ∷ back) (sym above-parts)

-- ---- which mappings are overlapped

nothing-more : {A : Type 0} (xs ys : List A) → xs ≡ xs ++ ys → ys ≡ []
nothing-more [] ys e = sym e
nothing-more (x ∷ xs) ys e = nothing-more xs ys (ap (drop 1) e)

filter-again : (test : Mapping → Bool) (ms : List Mapping) → filter test (filter test ms) ≡ filter test ms
filter-again test [] = refl
filter-again test (m ∷ ms) =
    let rest = filter-again test ms in
    cond_both (test m) (m ∷ filter test ms) (filter test ms) (λ kept. filter test kept ≡ kept)
    (λ is. rw is (ap (λ others. m ∷ others) rest)) (λ is. rest)

-- those after the ones that pass a test fail it, if no others pass
pub none-behind : (test : Mapping → Bool) (ms front back : List Mapping) → ms ≡ front ++ back → front ≡ filter test ms → filter test back ≡ []
none-behind test ms front back whole is =
    nothing-more front (filter test back)
    (is ∙ ap (filter test) whole ∙ filter-append test front back
    ∙ ap (λ kept. kept ++ filter test back) (ap (filter test) is ∙ filter-again test ms ∙ sym is))

pub fails-head : (test : Mapping → Bool) (m : Mapping) (ms : List Mapping) → filter test (m ∷ ms) ≡ [] → (test m ≡ false) × (filter test ms ≡ [])
fails-head test m ms none =
    cond_both (test m) (m ∷ filter test ms) (filter test ms) (λ kept. kept ≡ [] → (test m ≡ false) × (filter test ms ≡ []))
    (λ is e. cc) (λ is e. (is, e)) none

-- nothing of a front passes a test, if nothing of the whole does
nothing-front : (test : Mapping → Bool) (front back : List Mapping) → filter test (front ++ back) ≡ [] → filter test front ≡ []
nothing-front test [] back none = refl
nothing-front test (m ∷ front) back none =
    let fails = fails-head test m (front ++ back) none in
    rw fails.0 (nothing-front test front back fails.1)

append-fits : {A : Type 0} (xs ys : List A) → length xs ≡ length (ys ++ xs) → ys ≡ []
append-fits xs [] e = refl
append-fits xs (y ∷ ys) e = absurd (let more = length-append ys xs in omega (arith, e, more))

none-before : (test : Mapping → Bool) (ms front back : List Mapping) → ms ≡ front ++ back → back ≡ filter test ms → filter test front ≡ []
none-before test ms front back whole is =
    append-fits back (filter test front)
    (ap length (is ∙ ap (filter test) whole ∙ filter-append test front back
    ∙ ap (λ kept. filter test front ++ kept) (ap (filter test) is ∙ filter-again test ms ∙ sym is)))

pub both : (a b : Bool) → a ≡ true → b ≡ true → (a && b) ≡ true
both true true x y = refl
both true false x y = y
both false b x y = x

pub not-second : (a b : Bool) → b ≡ false → (a && b) ≡ false
not-second true b y = y
not-second false b y = refl

pub not-first : (a b : Bool) → a ≡ false → (a && b) ≡ false
not-first true b y = cc
not-first false b y = refl

overlapped-none-before : (new : Mapping) (ms : List Mapping) → EndBy new.start ms → overlapped new ms ≡ []
overlapped-none-before new [] ends = refl
overlapped-none-before new (m ∷ ms) ends =
    let end = ends.0 in
    let here = not-second (nat_lt m.start new.end) (nat_lt new.start m.end) (lt-leb _ _ (omega (arith, end))) in
    rw here (overlapped-none-before new ms ends.1)

overlapped-none-after : (new : Mapping) (from : ℕ) (ms : List Mapping) → IsInOrder from ms → new.end ≤ from → overlapped new ms ≡ []
overlapped-none-after new from [] order low = refl
overlapped-none-after new from (m ∷ ms) order low =
    let first = order.0 in
    let own = order.1 in
    let here = not-first (nat_lt m.start new.end) (nat_lt new.start m.end) (lt-leb _ _ (omega (arith, first, low))) in
    rw here (overlapped-none-after new m.end ms order.2 (omega (arith, first, own, low)))

-- of two numbers the second is lower, where the first is not at most that
pub lt-of : (a b : ℕ) → nat_le a b ≡ false → nat_lt b a ≡ true
lt-of a b fails = le-leb _ _ (leb-false a b fails)

overlapped-all : (new : Mapping) (ms : List Mapping) → ending_by new.start ms ≡ [] → starting_from new.end ms ≡ [] → overlapped new ms ≡ ms
overlapped-all new [] above_start below_end = refl
overlapped-all new (m ∷ ms) above_start below_end =
    let ends = fails-head (λ n. nat_le n.end new.start) m ms above_start in
    let starts = fails-head (λ n. nat_le new.end n.start) m ms below_end in
    let here = both (nat_lt m.start new.end) (nat_lt new.start m.end) (lt-of new.end m.start starts.0) (lt-of m.end new.start ends.0) in
    rw here (ap (λ others. m ∷ others) (overlapped-all new ms ends.1 starts.1))

-- ---- the modules of mappings

order-low : (from : ℕ) (m : Mapping) (before after : List Mapping) → IsInOrder from (before ++ m ∷ after) → from ≤ m.start
order-low from m [] after order = order.0
order-low from m (x ∷ before) after order =
    let first = order.0 in
    let own = order.1 in
    let rest = order-low x.end m before after order.2 in
    omega (arith, first, own, rest)

module _ (module_of : Mapping → ModuleView) (starts : StartsAt module_of) where
  none-by : (address from : ℕ) (ms : List Mapping) → IsInOrder from ms → address < from → starting_by address (map module_of ms) ≡ []
  none-by address from [] order low = refl
  none-by address from (m ∷ ms) order low =
      let is = starts m in
      let first = order.0 in
      let own = order.1 in
      let here : starts_by address (module_of m) ≡ false = lt-leb _ _ (omega (arith, is, first, low)) in
      let rest = none-by address m.end ms order.2 (omega (arith, first, own, low)) in
      rw (here, rest) refl

  all-above : (address from : ℕ) (ms : List Mapping) → IsInOrder from ms → address < from → starting_above address (map module_of ms) ≡ map module_of ms
  all-above address from [] order low = refl
  all-above address from (m ∷ ms) order low =
      let is = starts m in
      let first = order.0 in
      let own = order.1 in
      let here : starts_by address (module_of m) ≡ false = lt-leb _ _ (omega (arith, is, first, low)) in
      let rest = all-above address m.end ms order.2 (omega (arith, first, own, low)) in
      rw (here, rest) refl

  -- a module that is added between others
  pub modules-between : (from : ℕ) (new : Mapping) (before after : List Mapping) → IsInOrder from (before ++ new ∷ after)
      → with_module (module_of new) (map module_of (before ++ after)) ≡ map module_of (before ++ new ∷ after)
  modules-between from new [] after order =
      let is = starts new in
      let own = order.1 in
      let low : (module_of new).start < new.end = omega (arith, is, own) in
      rw (none-by (module_of new).start new.end after order.2 low, all-above (module_of new).start new.end after order.2 low) refl
  modules-between from new (m ∷ before) after order =
      let is = starts new in
      let other = starts m in
      let own = order.1 in
      let end = order-low m.end new before after order.2 in
      let here : starts_by (module_of new).start (module_of m) ≡ true = le-leb _ _ (omega (arith, is, other, own, end)) in
      let rest = modules-between m.end new before after order.2 in
      rw here (ap (λ others. module_of m ∷ others) rest)

  no-start : (start from : ℕ) (ms : List Mapping) → IsInOrder from ms → start < from → has_start start (map module_of ms) ≡ false
  no-start start from [] order low = refl
  no-start start from (m ∷ ms) order low =
      let is = starts m in
      let first = order.0 in
      let own = order.1 in
      let here : ((module_of m).start == start) ≡ false = ne_eqb _ _ (λ same. omega (arith, is, first, low, same)) in
      let rest = no-start start m.end ms order.2 (omega (arith, first, own, low)) in
      rw (here, rest) refl

  -- a module that is removed
  pub module-removed : (from : ℕ) (m : Mapping) (before after : List Mapping) → IsInOrder from (before ++ m ∷ after)
      → (has_start m.start (map module_of (before ++ m ∷ after)) ≡ true)
      × (without_module m.start (map module_of (before ++ m ∷ after)) ≡ map module_of (before ++ after))
  module-removed from m [] after order =
      let here : ((module_of m).start == m.start) ≡ true = eq-eqb _ _ (starts m) in
      let others : has_start m.start (map module_of after) ≡ false = no-start m.start m.end after order.2 order.1 in
      (rw here refl, rw (others, here) refl)
  module-removed from m (x ∷ before) after order =
      let rest = module-removed x.end m before after order.2 in (
        or_right ((module_of x).start == m.start) (has_start m.start (map module_of (before ++ m ∷ after))) rest.0,
        rw rest.0 (ap (λ others. module_of x ∷ others) rest.1),
      )

pub order-removed : (from : ℕ) (m : Mapping) (before after : List Mapping) → IsInOrder from (before ++ m ∷ after) → IsInOrder from (before ++ after)
order-removed from m [] after order =
    let first = order.0 in
    let own = order.1 in
    weaker-order from m.end after (omega (arith, first, own)) order.2
order-removed from m (x ∷ before) after order = (order.0, order.1, order-removed x.end m before after order.2)

pub order-removed-all : (from : ℕ) (before middle after : List Mapping) → IsInOrder from (before ++ (middle ++ after)) → IsInOrder from (before ++ after)
order-removed-all from [] middle after order = order-back from middle after order
order-removed-all from (x ∷ before) middle after order =
    (order.0, order.1, order-removed-all x.end before middle after order.2)

-- modules that are added in order
pub modules-loaded : (module_of : Mapping → ModuleView) → StartsAt module_of → (added before : List Mapping)
    → IsInOrder 0 (before ++ added) → with_modules (map module_of added) (map module_of before) ≡ map module_of (before ++ added)
modules-loaded module_of starts [] before order = ap (map module_of) (sym (append-empty before))
modules-loaded module_of starts (m ∷ added) before order =
    let parted : before ++ m ∷ added ≡ (before ++ m ∷ []) ++ added = sym (append-parts before (m ∷ []) added) in
    let later = subst (λ (all : List Mapping). IsInOrder 0 all) parted order in
    let next : with_module (module_of m) (map module_of before) ≡ map module_of (before ++ m ∷ []) =
    ap (λ (l : List Mapping). with_module (module_of m) (map module_of l)) (sym (append-empty before))
    ∙ modules-between module_of starts 0 m before [] (order-front 0 (before ++ m ∷ []) added later) in
    ap (with_modules (map module_of added)) next
    ∙ modules-loaded module_of starts added (before ++ m ∷ []) later
    ∙ ap (map module_of) (sym parted)

-- the last mapping of a part is removed
pub last-removed : (module_of : Mapping → ModuleView) → StartsAt module_of
    → (removed : List Mapping) (i : ℕ) (d m : Mapping) (before after : List Mapping) → i < length removed
    → m ≡ get_or removed i d → IsInOrder 0 (before ++ (take (i + 1) removed ++ after))
    → IsInOrder 0 (before ++ (take i removed ++ after))
    × (has_start m.start (map module_of (before ++ (take (i + 1) removed ++ after))) ≡ true)
    × (without_module m.start (map module_of (before ++ (take (i + 1) removed ++ after))) ≡ map module_of
    (before ++ (take i removed ++ after)))
last-removed module_of starts removed i d m before after within is order =
    let front = take i removed in
    let next : take (i + 1) removed ≡ front ++ m ∷ [] = take_more removed i d within ∙ ap (λ one. front ++ one ∷ []) (sym is) in
    let parted : before ++ (take (i + 1) removed ++ after) ≡ (before ++ front) ++ m ∷ after =
    ap (λ all. before ++ (all ++ after)) next ∙ ap (λ rest. before ++ rest) (append-parts front (m ∷ []) after) ∙ sym (append-parts before front (m ∷ after)) in
    let left : (before ++ front) ++ after ≡ before ++ (front ++ after) = append-parts before front after in
    let later = subst (λ (all : List Mapping). IsInOrder 0 all) parted order in
    let parts = module-removed module_of starts 0 m (before ++ front) after later in (
      subst (λ (all : List Mapping). IsInOrder 0 all) left (order-removed 0 m (before ++ front) after later),
      rw parted parts.0,
      rw (parted, ← left) parts.1,
    )

-- the next mapping of a part is added
pub next-added : (module_of : Mapping → ModuleView) → StartsAt module_of
    → (added : List Mapping) (i : ℕ) (d m : Mapping) (before after : List Mapping) → i < length added
    → m ≡ get_or added i d → IsInOrder 0 (before ++ (added ++ after))
    → with_module (module_of m) (map module_of (before ++ (take i added ++ after))) ≡ map module_of
    (before ++ (take (i + 1) added ++ after))
next-added module_of starts added i d m before after within is order =
    let front = take i added in
    let back = drop (suc i) added in
    let head : drop i added ≡ m ∷ back = drop-cons added i d within ∙ ap (λ x. x ∷ back) (sym is) in
    let whole : added ≡ front ++ m ∷ back = sym (take-append-drop i added) ∙ ap (λ rest. front ++ rest) head in
    let next : take (i + 1) added ≡ front ++ m ∷ [] = take_more added i d within ∙ ap (λ one. front ++ one ∷ []) (sym is) in
    let parted : before ++ (added ++ after) ≡ (before ++ front) ++ m ∷ (back ++ after) =
    ap (λ all. before ++ (all ++ after)) whole ∙ ap (λ rest. before ++ rest) (append-parts front (m ∷ back) after) ∙ sym (append-parts before front (m ∷ (back ++ after))) in
    let later = subst (λ (all : List Mapping). IsInOrder 0 all) parted order in
    let apart = subst (λ (all : List Mapping). IsInOrder 0 all) (sym (append-parts (before ++ front) (m ∷ []) (back ++ after))) later in
    let thin = order-removed-all 0 ((before ++ front) ++ m ∷ []) back after apart in
    let alone = subst (λ (all : List Mapping). IsInOrder 0 all) (append-parts (before ++ front) (m ∷ []) after) thin in
    ap (λ (all : List Mapping). with_module (module_of m) (map module_of all)) (sym (append-parts before front after))
    ∙ modules-between module_of starts 0 m (before ++ front) after alone
    ∙ ap (map module_of) (append-parts before front (m ∷ after)
    ∙ ap (λ (rest : List Mapping). before ++ rest) (sym (ap (λ (taken : List Mapping). taken ++ after) next ∙ append-parts front (m ∷ []) after)))

-- ---- a part of a list in the place of another

-- what is before a part of a list, and after it
pub taken-before : {A : Type 0} (before rest : List A) → take (length before) (before ++ rest) ≡ before
taken-before [] rest = refl
taken-before (x ∷ before) rest = ap (λ others. x ∷ others) (taken-before before rest)

pub dropped-front : {A : Type 0} (front rest : List A) → drop (length front) (front ++ rest) ≡ rest
dropped-front [] rest = refl
dropped-front (x ∷ front) rest = dropped-front front rest

-- others in the place of the middle
pub replaced-middle : (ms before middle after changed : List Mapping) (from to : ℕ) → ms ≡ before ++ (middle ++ after)
    → from ≡ length before → to ≡ length before + length middle
    → take from ms ++ (changed ++ drop to ms) ≡ before ++ (changed ++ after)
replaced-middle ms before middle after changed from to whole is next =
    let parted : ms ≡ (before ++ middle) ++ after = whole ∙ sym (append-parts before middle after) in
    let size : to ≡ length (before ++ middle) = next ∙ sym (length-append before middle) in
    let front : take from ms ≡ before = ap (λ n. take n ms) is ∙ ap (take (length before)) whole ∙ taken-before before (middle ++ after) in
    let back : drop to ms ≡ after = ap (λ n. drop n ms) size ∙ ap (drop (length (before ++ middle))) parted ∙ dropped-front (before ++ middle) after in
    rw (front, back) refl

-- one more is inserted after some that were
pub inserted-next : (old changed list : List Mapping) (from to i at : ℕ) (x d : Mapping)
    → list ≡ take from old ++ (take i changed ++ drop to old) → from ≤ length old → i < length changed
    → at ≡ from + i → x ≡ get_or changed i d
    → take at list ++ x ∷ drop at list ≡ take from old ++ (take (i + 1) changed ++ drop to old)
inserted-next old changed list from to i at x d is fits within place read =
    let front = take from old ++ take i changed in
    let back = drop to old in
    let parted : list ≡ front ++ back = is ∙ sym (append-parts (take from old) (take i changed) back) in
    let size : at ≡ length front =
    let count = length-append (take from old) (take i changed) in
    let first = length-take from old in
    let second = length-take i changed in
    omega (arith, place, count, first, second, fits, within) in
    let before : take at list ≡ front = ap (λ n. take n list) size ∙ ap (take (length front)) parted ∙ taken-before front back in
    let after : drop at list ≡ back = ap (λ n. drop n list) size ∙ ap (drop (length front)) parted ∙ dropped-front front back in
    let next : take (i + 1) changed ≡ take i changed ++ x ∷ [] = take_more changed i d within ∙ ap (λ one. take i changed ++ one ∷ []) (sym read) in
    rw (before, after, next)
    (append-parts (take from old) (take i changed) (x ∷ back)
    ∙ ap (λ rest. take from old ++ rest) (sym (append-parts (take i changed) (x ∷ []) back)))

-- ---- the mappings that are before a new one, overlapped, and after it

module _ (new : Mapping) (some : new.start < new.end) (ms before rest middle after : List Mapping)
    (whole : ms ≡ before ++ rest) (first : before ≡ ending_by new.start ms) (parted : rest ≡ middle ++ after)
    (last : after ≡ starting_from new.end rest) (order : IsInOrder 0 ms) where
  pub whole-parts : ms ≡ before ++ (middle ++ after)
  whole-parts = whole ∙ ap (λ others. before ++ others) parted

  ends : EndBy new.start before
  ends = subst (λ (l : List Mapping). EndBy new.start l) (sym first) (ending_by-ends new.start ms)

  order-rest : IsInOrder 0 rest
  order-rest = order-back 0 before rest (subst (λ (l : List Mapping). IsInOrder 0 l) whole order)

  starts : IsInOrder new.end after
  starts = subst (λ (l : List Mapping). IsInOrder new.end l) (sym last) (starting_from-starts new.end 0 rest order-rest)

  pub mapped-parts : before ++ (with_mapping new middle ++ after) ≡ with_mapping new ms
  mapped-parts =
      parts-joined new some before middle after (subst (λ (l : List Mapping). IsInOrder 0 l) whole-parts order) ends starts
      ∙ ap (with_mapping new) (sym whole-parts)

  -- the part that is put in the place of the overlapped ones lies in the list
  pub part-fits : (list : List Mapping) → ms ≡ list → length before + length middle ≤ length list
  part-fits list same =
      let size : length list ≡ length (before ++ (middle ++ after)) = ap length (sym same ∙ whole-parts) in
      let count = length-append before (middle ++ after) in
      let others = length-append middle after in
      omega (arith, size, count, others)

  -- and the list then has the new one
  pub replaced-is : (list changed new_list : List Mapping) → ms ≡ list → changed ≡ with_mapping new middle
      → new_list ≡ take (length before) list ++ (changed ++ drop (length before + length middle) list)
      → new_list ≡ with_mapping new ms
  replaced-is list changed new_list same are is =
      is
      ∙ replaced-middle list before middle after changed (length before) (length before + length middle) (sym same ∙ whole-parts) refl refl
      ∙ ap (λ (l : List Mapping). before ++ (l ++ after)) are
      ∙ mapped-parts

  pub overlapped-middle : overlapped new ms ≡ middle
  overlapped-middle =
      let test : Mapping → Bool = λ m. nat_lt m.start new.end && nat_lt new.start m.end in
      let behind = none-behind (λ m. nat_le m.end new.start) ms before rest whole first in
      let not_by = nothing-front (λ m. nat_le m.end new.start) middle after (ap (ending_by new.start) (sym parted) ∙ behind) in
      let not_from = none-before (λ m. nat_le new.end m.start) rest middle after parted last in
      ap (overlapped new) whole-parts
      ∙ filter-append test before (middle ++ after)
      ∙ ap (λ kept. kept ++ filter test (middle ++ after)) (overlapped-none-before new before ends)
      ∙ filter-append test middle after
      ∙ ap (λ kept. filter test middle ++ kept) (overlapped-none-after new new.end after starts (omega arith))
      ∙ append-empty (filter test middle)
      ∙ overlapped-all new middle not_by not_from

-- ---- the greatest end

-- that of the modules of mappings
pub greatest-mapped : (module_of : Mapping → ModuleView) → EndsAt module_of → (ms : List Mapping)
    → greatest_end (map module_of ms) ≡ greatest_end_of ms
greatest-mapped module_of ends [] = refl
greatest-mapped module_of ends (m ∷ ms) = rw (ends m, greatest-mapped module_of ends ms) refl

-- that of the last, since they are in order
last-end : (from : ℕ) (m : Mapping) (ms : List Mapping) (k : ℕ) (last : Mapping) → IsInOrder from (m ∷ ms) → k ≡ length ms
    → Some last ≡ slice_get (m ∷ ms) k → greatest_end_of (m ∷ ms) ≡ last.end
last-end from m [] zero last order is found = let same : last ≡ m = cc in rw same (omega arith)
last-end from m [] (suc k) last order is found = absurd (omega (arith, is))
last-end from m (n ∷ ms) zero last order is found = absurd (omega (arith, is))
last-end from m (n ∷ ms) (suc k) last order is found =
    let rest = last-end m.end n ms k last order.2 (omega (arith, is)) found in
    let first = order.2.0 in
    let own = order.2.1 in
    omega (arith, rest, first, own)

pub greatest-last : (ms : List Mapping) (last : Mapping) → IsInOrder 0 ms → Some last ≡ slice_get ms (length ms - 1)
    → greatest_end_of ms ≡ last.end
greatest-last [] last order found = cc
greatest-last (m ∷ ms) last order found =
    let place : length (m ∷ ms) - 1 ≡ length ms = omega arith in
    last-end 0 m ms (length ms) last order refl (found ∙ ap (slice_get (m ∷ ms)) place)
