-- Mappings that overlap none of others, and mappings without the one that starts at an address.
use Rattle.std.proofs.Common.{◌≡◌, ℕ, ◌<◌, ◌≤◌, Bool, true, false, nat_le, nat_lt, not, ◌==◌, ◌&&◌, ◌||◌, ◌+◌, ◌-◌, suc, List, [], ◌∷◌, ◌++◌, length, take, drop, filter, map, get_or, Option, Some, None, refl, ap, sym, ◌∙◌, subst, arith}
use Rattle.std.proofs.lemmas.Bool.{le-leb, lt-leb, leb-false, eq-eqb, ne_eqb, or_right, cond_both}
use Rattle.std.proofs.Math.Seq.{drop-cons}
use Rattle.std.proofs.lemmas.List.{length-append, length-take, take-append-drop}
use Rattle.std.proofs.lemmas.List.Elements.{filter-append}
use Rattle.std.proofs.lemmas.List.Folds.{list_any-append}
use Rattle.std.specs.List.{list_any, insert, remove}
use Rattle.framehop.specs.Modules.{ModuleView, with_module, has_start, without_module}
use Rattle.framehop_processes.specs.declared.mapping.Mapping.{Mapping}
use Rattle.framehop_processes.specs.Mappings.{IsInOrder, with_mapping, ending_by, overlaps, starting_elsewhere, left_by}
use Rattle.framehop_processes.specs.Process.{StartsAt}
use Rattle.framehop_processes.proofs.MappingLemmas.{EndBy, weaker-order, ending_by-ends, ends-before, ends-later, order-back, order-removed, with_mapping-order, parts-joined, modules-between, module-removed, append-parts, append-empty, taken-before, dropped-front, none-behind, fails-head, both, not-first, not-second, lt-of}

-- ---- what overlaps none

or-none : (a b : Bool) → (a || b) ≡ false → (a ≡ false) × (b ≡ false)
or-none true b none = cc
or-none false b none = (refl, none)

or-both : (a b : Bool) → a ≡ false → b ≡ false → (a || b) ≡ false
or-both true b first second = cc
or-both false b first second = second

none-by : (new : Mapping) (ms : List Mapping) → EndBy new.start ms → list_any (overlaps new) ms ≡ false
none-by new [] ends = refl
none-by new (m ∷ ms) ends =
    let end = ends.0 in
    or-both (overlaps new m) (list_any (overlaps new) ms)
    (not-second (nat_lt m.start new.end) (nat_lt new.start m.end) (lt-leb _ _ (omega (arith, end))))
    (none-by new ms ends.1)

none-from : (new : Mapping) (from : ℕ) (ms : List Mapping) → IsInOrder from ms → new.end ≤ from → list_any (overlaps new) ms ≡ false
none-from new from [] order low = refl
none-from new from (m ∷ ms) order low =
    let first = order.0 in
    let own = order.1 in
    or-both (overlaps new m) (list_any (overlaps new) ms)
    (not-first (nat_lt m.start new.end) (nat_lt new.start m.end) (lt-leb _ _ (omega (arith, first, low))))
    (none-from new m.end ms order.2 (omega (arith, first, own, low)))

or-first : (a b : Bool) → b ≡ false → (a || b) ≡ a
or-first true b is = refl
or-first false b is = is

or-second : (a b : Bool) → a ≡ false → (a || b) ≡ b
or-second true b is = cc
or-second false b is = refl

or-left : (a b : Bool) → a ≡ true → (a || b) ≡ true
or-left true b is = refl
or-left false b is = cc

-- where a mapping lies between those before it and those after it
module _ (new m : Mapping) (before after : List Mapping) (order : IsInOrder 0 (before ++ m ∷ after)) where
  pub overlaps-before : new.end ≤ m.start → list_any (overlaps new) before ≡ list_any (overlaps new) (before ++ m ∷ after)
  overlaps-before low =
      let back = order-back 0 before (m ∷ after) order in
      sym (list_any-append (overlaps new) before (m ∷ after)
      ∙ or-first (list_any (overlaps new) before) (list_any (overlaps new) (m ∷ after))
      (none-from new m.start (m ∷ after) (omega arith, back.1, back.2) low))

  pub overlaps-after : m.end ≤ new.start → list_any (overlaps new) after ≡ list_any (overlaps new) (before ++ m ∷ after)
  overlaps-after high =
      let back = order-back 0 before (m ∷ after) order in
      let own = back.1 in
      let front = none-by new before (ends-later m.start new.start before (omega (arith, own, high)) (ends-before 0 m before after order)) in
      let here = not-second (nat_lt m.start new.end) (nat_lt new.start m.end) (lt-leb _ _ (omega (arith, high))) in
      sym (list_any-append (overlaps new) before (m ∷ after)
      ∙ or-second (list_any (overlaps new) before) (list_any (overlaps new) (m ∷ after)) front
      ∙ or-second (overlaps new m) (list_any (overlaps new) after) here)

  pub overlaps-here : m.start < new.end → new.start < m.end → list_any (overlaps new) (before ++ m ∷ after) ≡ true
  overlaps-here low high =
      list_any-append (overlaps new) before (m ∷ after)
      ∙ or_right (list_any (overlaps new) before) (list_any (overlaps new) (m ∷ after))
      (or-left (overlaps new m) (list_any (overlaps new) after)
      (both (nat_lt m.start new.end) (nat_lt new.start m.end) (le-leb _ _ (omega (arith, low))) (le-leb _ _ (omega (arith, high)))))

not-both : (a b : Bool) → b ≡ true → (a && b) ≡ false → a ≡ false
not-both true b is none = cc
not-both false b is none = refl

-- A mapping that overlaps none lies between those that end by its start, and the others, which start from its end on.
module _ (new : Mapping) (some : new.start < new.end) (ms before rest : List Mapping) (whole : ms ≡ before ++ rest)
    (front : before ≡ ending_by new.start ms) (order : IsInOrder 0 ms) (apart : list_any (overlaps new) ms ≡ false) where
  ends : EndBy new.start before
  ends = subst (λ (l : List Mapping). EndBy new.start l) (sym front) (ending_by-ends new.start ms)

  parted : IsInOrder 0 (before ++ rest)
  parted = subst (λ (l : List Mapping). IsInOrder 0 l) whole order

  none-left : list_any (overlaps new) rest ≡ false
  none-left = (or-none _ _ (sym (list_any-append (overlaps new) before rest) ∙ ap (list_any (overlaps new)) (sym whole) ∙ apart)).1

  starts : (later : List Mapping) → IsInOrder 0 later → ending_by new.start later ≡ [] → list_any (overlaps new) later ≡ false → IsInOrder new.end later
  starts [] order' above none = tt
  starts (m ∷ later) order' above none =
      let past = fails-head (λ n. nat_le n.end new.start) m later above in
      let fails = not-both (nat_lt m.start new.end) (nat_lt new.start m.end) (lt-of m.end new.start past.0) (or-none _ _ none).0 in
      let low = leb-false _ _ fails in
      (omega (arith, low), order'.1, order'.2)

  pub with-apart : before ++ new ∷ rest ≡ with_mapping new ms
  with-apart =
      parts-joined new some before [] rest parted ends
      (starts rest (order-back 0 before rest parted) (none-behind (λ m. nat_le m.end new.start) ms before rest whole front) none-left)
      ∙ ap (with_mapping new) (sym whole)

-- ---- those that start elsewhere

all-elsewhere : (start from : ℕ) (ms : List Mapping) → IsInOrder from ms → start < from → starting_elsewhere start ms ≡ ms
all-elsewhere start from [] order low = refl
all-elsewhere start from (m ∷ ms) order low =
    let first = order.0 in
    let own = order.1 in
    let here : (m.start == start) ≡ false = ne_eqb _ _ (λ same. omega (arith, first, low, same)) in
    rw here (ap (λ others. m ∷ others) (all-elsewhere start m.end ms order.2 (omega (arith, first, own, low))))

front-elsewhere : (start from : ℕ) (front back : List Mapping) → IsInOrder from (front ++ back) → EndBy start front
    → starting_elsewhere start (front ++ back) ≡ front ++ starting_elsewhere start back
front-elsewhere start from [] back order ends = refl
front-elsewhere start from (m ∷ front) back order ends =
    let own = order.1 in
    let end = ends.0 in
    let here : (m.start == start) ≡ false = ne_eqb _ _ (λ same. omega (arith, own, end, same)) in
    rw here (ap (λ others. m ∷ others) (front-elsewhere start m.end front back order.2 ends.1))

-- one of them starts there
pub one-elsewhere : (m : Mapping) (before after : List Mapping) → IsInOrder 0 (before ++ m ∷ after)
    → starting_elsewhere m.start (before ++ m ∷ after) ≡ before ++ after
one-elsewhere m before after order =
    let back = order-back 0 before (m ∷ after) order in
    let here : (m.start == m.start) ≡ true = eq-eqb _ _ refl in
    front-elsewhere m.start 0 before (m ∷ after) order (ends-before 0 m before after order)
    ∙ ap (λ others. before ++ others) (rw here (all-elsewhere m.start m.end after back.2 back.1))

-- none of them does, if the first that does not end by it does not
module _ (start : ℕ) (ms before rest : List Mapping) (whole : ms ≡ before ++ rest) (front : before ≡ ending_by start ms) (order : IsInOrder 0 ms) where
  none-later : (later : List Mapping) → IsInOrder 0 later → ending_by start later ≡ []
      → ((m : Mapping) (after : List Mapping) → later ≡ m ∷ after → m.start ≡ start → ⊥) → starting_elsewhere start later ≡ later
  none-later [] order' above other = refl
  none-later (m ∷ later) order' above other =
      let past = fails-head (λ n. nat_le n.end start) m later above in
      let high = leb-false _ _ past.0 in
      let here : (m.start == start) ≡ false = ne_eqb _ _ (other m later refl) in
      rw here (ap (λ others. m ∷ others) (all-elsewhere start m.end later order'.2 (omega (arith, high))))

  pub none-elsewhere : ((m : Mapping) (after : List Mapping) → rest ≡ m ∷ after → m.start ≡ start → ⊥) → ms ≡ starting_elsewhere start ms
  none-elsewhere other =
      let parted = subst (λ (l : List Mapping). IsInOrder 0 l) whole order in
      let ends = subst (λ (l : List Mapping). EndBy start l) (sym front) (ending_by-ends start ms) in
      sym (ap (starting_elsewhere start) whole
      ∙ front-elsewhere start 0 before rest parted ends
      ∙ ap (λ others. before ++ others)
      (none-later rest (order-back 0 before rest parted) (none-behind (λ m. nat_le m.end start) ms before rest whole front) other)
      ∙ sym whole)

-- ---- a mapping that overlaps none can be taken out again

none-ending : (address from : ℕ) (ms : List Mapping) → IsInOrder from ms → address ≤ from → ending_by address ms ≡ []
none-ending address from [] order low = refl
none-ending address from (m ∷ ms) order low =
    let first = order.0 in
    let own = order.1 in
    let here : nat_le m.end address ≡ false = lt-leb _ _ (omega (arith, first, own, low)) in
    rw here (none-ending address m.end ms order.2 (omega (arith, first, own, low)))

others-ending : (address from : ℕ) (ms : List Mapping) → IsInOrder from ms → (rest : List Mapping) × (ms ≡ ending_by address ms ++ rest)
others-ending address from [] order = ([], refl)
others-ending address from (m ∷ ms) order =
    let later = others-ending address m.end ms order.2 in
    cond_both (nat_le m.end address) (m ∷ ending_by address ms) (ending_by address ms)
    (λ kept. (rest : List Mapping) × (m ∷ ms ≡ kept ++ rest))
    (λ is. (later.0, ap (λ others. m ∷ others) later.1))
    (λ is. let high = leb-false _ _ is in
    (m ∷ ms, ap (λ (front : List Mapping). front ++ m ∷ ms) (sym (none-ending address m.end ms order.2 (omega (arith, high))))))

pub taken-again : (new : Mapping) (ms : List Mapping) → new.start < new.end → IsInOrder 0 ms → list_any (overlaps new) ms ≡ false
    → starting_elsewhere new.start (with_mapping new ms) ≡ ms
taken-again new ms some order apart =
    let parts = others-ending new.start 0 ms order in
    let is = with-apart new some ms (ending_by new.start ms) parts.0 parts.1 refl order apart in
    ap (starting_elsewhere new.start) (sym is)
    ∙ one-elsewhere new (ending_by new.start ms) parts.0 (subst (λ (l : List Mapping). IsInOrder 0 l) (sym is) (with_mapping-order new ms some order))
    ∙ sym parts.1

-- ---- a list that such a mapping is put into, and one that a mapping is taken out of

module _ (new : Mapping) (some : new.start < new.end) (ms before rest : List Mapping) (whole : ms ≡ before ++ rest)
    (front : before ≡ ending_by new.start ms) (order : IsInOrder 0 ms) (apart : list_any (overlaps new) ms ≡ false)
    (i : ℕ) (is : i ≡ length before) where
  parts-put : insert ms i new ≡ before ++ new ∷ rest
  parts-put =
      let first : take i ms ≡ before = ap (λ n. take n ms) is ∙ ap (take (length before)) whole ∙ taken-before before rest in
      let last : drop i ms ≡ rest = ap (λ n. drop n ms) is ∙ ap (drop (length before)) whole ∙ dropped-front before rest in
      rw (first, last) refl

  pub is-put : insert ms i new ≡ with_mapping new ms
  is-put = parts-put ∙ with-apart new some ms before rest whole front order apart

  pub module-put : (module_of : Mapping → ModuleView) → StartsAt module_of
      → with_module (module_of new) (map module_of ms) ≡ map module_of (insert ms i new)
  module-put module_of starts =
      let later = subst (λ (l : List Mapping). IsInOrder 0 l) (sym (with-apart new some ms before rest whole front order apart)) (with_mapping-order new ms some order) in
      ap (λ (l : List Mapping). with_module (module_of new) (map module_of l)) whole
      ∙ modules-between module_of starts 0 new before rest later
      ∙ ap (map module_of) (sym parts-put)

module _ (start : ℕ) (ms before rest : List Mapping) (whole : ms ≡ before ++ rest) (front : before ≡ ending_by start ms) (order : IsInOrder 0 ms)
    (i : ℕ) (is : i ≡ length before) (m : Mapping) (read : m ≡ get_or ms i m) where
  later-are : i < length ms → rest ≡ m ∷ drop (suc i) ms
  later-are within =
      sym (dropped-front before rest) ∙ ap (drop (length before)) (sym whole) ∙ ap (λ n. drop n ms) (sym is)
      ∙ drop-cons ms i m within ∙ ap (λ x. x ∷ drop (suc i) ms) (sym read)

  first-are : take i ms ≡ before
  first-are = ap (λ n. take n ms) is ∙ ap (take (length before)) whole ∙ taken-before before rest

  parts-are : i < length ms → ms ≡ before ++ m ∷ drop (suc i) ms
  parts-are within = whole ∙ ap (λ others. before ++ others) (later-are within)

  order-parts : i < length ms → IsInOrder 0 (before ++ m ∷ drop (suc i) ms)
  order-parts within = subst (λ (l : List Mapping). IsInOrder 0 l) (parts-are within) order

  left-are : remove ms i ≡ before ++ drop (suc i) ms
  left-are = ap (λ others. others ++ drop (suc i) ms) first-are

  pub is-taken : i < length ms → m.start ≡ start → remove ms i ≡ starting_elsewhere start ms
  is-taken within same =
      left-are
      ∙ sym (one-elsewhere m before (drop (suc i) ms) (order-parts within))
      ∙ ap (λ n. starting_elsewhere n (before ++ m ∷ drop (suc i) ms)) same
      ∙ ap (starting_elsewhere start) (sym (parts-are within))

  pub none-taken : (i < length ms → m.start ≡ start → ⊥) → ms ≡ starting_elsewhere start ms
  none-taken other =
      none-elsewhere start ms before rest whole front order (λ n after found same.
      let size = ap length whole in
      let count = length-append before rest in
      let some = ap length found in
      let within : i < length ms = omega (arith, is, size, count, some) in
      let head : n ≡ m = let there = sym found ∙ later-are within in cc in
      other within (sym (ap (λ (x : Mapping). x.start) head) ∙ same))

  -- the module of one that is taken out
  pub module-taken : i < length ms → (module_of : Mapping → ModuleView) → StartsAt module_of
      → (has_start m.start (map module_of ms) ≡ true) × (without_module m.start (map module_of ms) ≡ map module_of (remove ms i))
  module-taken within module_of starts =
      let parts = module-removed module_of starts 0 m before (drop (suc i) ms) (order-parts within) in
      let whole' = ap (map module_of) (parts-are within) in (
        ap (has_start m.start) whole' ∙ parts.0,
        ap (without_module m.start) whole' ∙ parts.1 ∙ ap (map module_of) (sym left-are),
      )

-- ---- a mapping in the place of another

module _ {X : Type 0} (g new : X) where
  -- the others of a part are moved before it
  moved-up : (before part rest : List X) (i n : ℕ) → i ≡ length before → n ≡ length before + (1 + length part)
      → let all = before ++ g ∷ (part ++ rest) in
      take i all ++ ((drop 1 (take (n - i) (drop i all)) ++ new ∷ []) ++ drop (n - i) (drop i all)) ≡ (before ++ part) ++ new ∷ rest
  moved-up before part rest i n is size =
      let all = before ++ g ∷ (part ++ rest) in
      let front : take i all ≡ before = ap (λ k. take k all) is ∙ taken-before before (g ∷ (part ++ rest)) in
      let back : drop i all ≡ g ∷ (part ++ rest) = ap (λ k. drop k all) is ∙ dropped-front before (g ∷ (part ++ rest)) in
      let count : n - i ≡ suc (length part) = omega (arith, is, size) in
      rw (front, back, count, taken-before part rest, dropped-front part rest)
      (ap (λ others. before ++ others) (append-parts part (new ∷ []) rest) ∙ sym (append-parts before part (new ∷ rest)))

  -- and after it
  moved-down : (before part rest : List X) (i n : ℕ) → n ≡ length before → i ≡ length before + length part
      → let all = before ++ (part ++ g ∷ rest) in
      let slice = take (i + 1 - n) (drop n all) in
      take n all ++ ((new ∷ take (length slice - 1) slice) ++ drop (i + 1 - n) (drop n all)) ≡ before ++ new ∷ (part ++ rest)
  moved-down before part rest i n is size =
      let all = before ++ (part ++ g ∷ rest) in
      let front : take n all ≡ before = ap (λ k. take k all) is ∙ taken-before before (part ++ g ∷ rest) in
      let back : drop n all ≡ (part ++ g ∷ []) ++ rest =
      ap (λ k. drop k all) is ∙ dropped-front before (part ++ g ∷ rest) ∙ sym (append-parts part (g ∷ []) rest) in
      let long = length-append part (g ∷ []) in
      let count : i + 1 - n ≡ length (part ++ g ∷ []) = omega (arith, is, size, long) in
      let short : length (part ++ g ∷ []) - 1 ≡ length part = omega (arith, long) in
      rw (front, back, count, taken-before (part ++ g ∷ []) rest, dropped-front (part ++ g ∷ []) rest, short, taken-before part (g ∷ [])) refl

  dropped-past : (before rest : List X) → drop (suc (length before)) (before ++ g ∷ rest) ≡ rest
  dropped-past [] rest = refl
  dropped-past (x ∷ before) rest = dropped-past before rest

  removed-one : (before rest : List X) (i : ℕ) → i ≡ length before → remove (before ++ g ∷ rest) i ≡ before ++ rest
  removed-one before rest i is =
      let all = before ++ g ∷ rest in
      let front : take i all ≡ before = ap (λ k. take k all) is ∙ taken-before before (g ∷ rest) in
      let back : drop (suc i) all ≡ rest = ap (λ k. drop (suc k) all) is ∙ dropped-past before rest in
      rw (front, back) refl

all-ending : (address : ℕ) (ms : List Mapping) → EndBy address ms → ending_by address ms ≡ ms
all-ending address [] ends = refl
all-ending address (m ∷ ms) ends =
    let end = ends.0 in
    let here : nat_le m.end address ≡ true = le-leb _ _ (omega (arith, end)) in
    rw here (ap (λ others. m ∷ others) (all-ending address ms ends.1))

ends-left : (address : ℕ) (m : Mapping) (before after : List Mapping) → EndBy address (before ++ m ∷ after) → EndBy address (before ++ after)
ends-left address m [] after ends = ends.1
ends-left address m (x ∷ before) after ends = (ends.0, ends-left address m before after ends.1)

none-left-by : (test : Mapping → Bool) (m : Mapping) (before after : List Mapping) → filter test (before ++ m ∷ after) ≡ []
    → filter test (before ++ after) ≡ []
none-left-by test m [] after none = (fails-head test m after none).1
none-left-by test m (x ∷ before) after none =
    let fails = fails-head test x (before ++ m ∷ after) none in
    rw fails.0 (none-left-by test m before after fails.1)

module _ (new : Mapping) (some : new.start < new.end) (ms front back : List Mapping) (whole : ms ≡ front ++ back)
    (is_front : front ≡ ending_by new.start ms) (order : IsInOrder 0 ms) (i : ℕ) (apart : list_any (overlaps new) (remove ms i) ≡ false)
    (d : Mapping) where
  ending : EndBy new.start front
  ending = subst (λ (l : List Mapping). EndBy new.start l) (sym is_front) (ending_by-ends new.start ms)

  none-back : ending_by new.start back ≡ []
  none-back = none-behind (λ m. nat_le m.end new.start) ms front back whole is_front

  -- the others, and those of them that end by the start of the new one
  module _ (others before rest : List Mapping) (are : remove ms i ≡ others) (parted : others ≡ before ++ rest)
      (first : ending_by new.start before ≡ before) (last : ending_by new.start rest ≡ []) (ordered : IsInOrder 0 others) where
    with-new : before ++ new ∷ rest ≡ with_mapping new (remove ms i)
    with-new =
        let end : before ≡ ending_by new.start others =
        sym (ap (ending_by new.start) parted ∙ filter-append (λ m. nat_le m.end new.start) before rest
        ∙ ap (λ kept. kept ++ ending_by new.start rest) first ∙ ap (λ kept. before ++ kept) last ∙ append-empty before) in
        with-apart new some others before rest parted end ordered (ap (list_any (overlaps new)) (sym are) ∙ apart)
        ∙ ap (with_mapping new) (sym are)

  pub exchanged-up : i < length front
      → take i ms ++ ((drop 1 (take (length front - i) (drop i ms)) ++ new ∷ []) ++ drop (length front - i) (drop i ms))
      ≡ with_mapping new (remove ms i)
  exchanged-up low =
      let g = get_or front i d in
      let before = take i front in
      let part = drop (suc i) front in
      let parts : front ≡ before ++ g ∷ part = sym (take-append-drop i front) ∙ ap (λ rest. before ++ rest) (drop-cons front i d low) in
      let all : ms ≡ before ++ g ∷ (part ++ back) = whole ∙ ap (λ l. l ++ back) parts ∙ append-parts before (g ∷ part) back in
      let count = length-take i front in
      let is : i ≡ length before = omega (arith, count, low) in
      let long = ap length parts in
      let both = length-append before (g ∷ part) in
      let size : length front ≡ length before + (1 + length part) = omega (arith, long, both) in
      let left : remove ms i ≡ before ++ (part ++ back) = ap (λ l. remove l i) all ∙ removed-one g new before (part ++ back) i is in
      let in_order = order-removed 0 g before (part ++ back) (subst (λ (l : List Mapping). IsInOrder 0 l) all order) in
      ap (λ l. take i l ++ ((drop 1 (take (length front - i) (drop i l)) ++ new ∷ []) ++ drop (length front - i) (drop i l))) all
      ∙ moved-up g new before part back i (length front) is size
      ∙ with-new (before ++ (part ++ back)) (before ++ part) back left (sym (append-parts before part back))
      (all-ending new.start (before ++ part) (ends-left new.start g before part (subst (λ (l : List Mapping). EndBy new.start l) parts ending)))
      none-back in_order

  pub exchanged-down : length front ≤ i → i < length ms
      → let slice = take (i + 1 - length front) (drop (length front) ms) in
      take (length front) ms ++ ((new ∷ take (length slice - 1) slice) ++ drop (i + 1 - length front) (drop (length front) ms))
      ≡ with_mapping new (remove ms i)
  exchanged-down high within =
      let all_long = ap length whole in
      let sum = length-append front back in
      let at = i - length front in
      let low : at < length back = omega (arith, high, within, all_long, sum) in
      let g = get_or back at d in
      let part = take at back in
      let rest = drop (suc at) back in
      let parts : back ≡ part ++ g ∷ rest = sym (take-append-drop at back) ∙ ap (λ others. part ++ others) (drop-cons back at d low) in
      let all : ms ≡ front ++ (part ++ g ∷ rest) = whole ∙ ap (λ l. front ++ l) parts in
      let count = length-take at back in
      let size : i ≡ length front + length part = omega (arith, count, low, high) in
      let one : ms ≡ (front ++ part) ++ g ∷ rest = all ∙ sym (append-parts front part (g ∷ rest)) in
      let place = length-append front part in
      let left : remove ms i ≡ front ++ (part ++ rest) =
      ap (λ l. remove l i) one ∙ removed-one g new (front ++ part) rest i (omega (arith, size, place)) ∙ append-parts front part rest in
      let in_order = subst (λ (l : List Mapping). IsInOrder 0 l) (append-parts front part rest)
      (order-removed 0 g (front ++ part) rest (subst (λ (l : List Mapping). IsInOrder 0 l) one order)) in
      ap (λ l. take (length front) l ++ ((new ∷ take (length (take (i + 1 - length front) (drop (length front) l)) - 1) (take (i + 1 - length front) (drop (length front) l)))
      ++ drop (i + 1 - length front) (drop (length front) l))) all
      ∙ moved-down g new front part rest i (length front) refl size
      ∙ with-new (front ++ (part ++ rest)) front (part ++ rest) left refl (all-ending new.start front ending)
      (none-left-by (λ m. nat_le m.end new.start) g part rest (ap (ending_by new.start) (sym parts) ∙ none-back)) in_order

-- those that are left are in order
order-elsewhere : (start from : ℕ) (ms : List Mapping) → IsInOrder from ms → IsInOrder from (starting_elsewhere start ms)
order-elsewhere start from [] order = tt
order-elsewhere start from (m ∷ ms) order =
    let later = order-elsewhere start m.end ms order.2 in
    let first = order.0 in
    let own = order.1 in
    cond_both (not (m.start == start)) (m ∷ starting_elsewhere start ms) (starting_elsewhere start ms) (IsInOrder from)
    (λ is. (first, own, later))
    (λ is. weaker-order from m.end (starting_elsewhere start ms) (omega (arith, first, own)) later)

pub order-left : (gone : Option ℕ) (ms : List Mapping) → IsInOrder 0 ms → IsInOrder 0 (left_by gone ms)
order-left (Some start) ms order = order-elsewhere start 0 ms order
order-left None ms order = order

-- the modules of mappings of which one goes and one comes
pub module-exchanged : (module_of : Mapping → ModuleView) → StartsAt module_of → (new : Mapping) (ms : List Mapping) (i : ℕ) (m : Mapping)
    → new.start < new.end → IsInOrder 0 ms → i < length ms → m ≡ get_or ms i m → list_any (overlaps new) (remove ms i) ≡ false
    → (has_start m.start (map module_of ms) ≡ true)
    × (with_module (module_of new) (without_module m.start (map module_of ms)) ≡ map module_of (with_mapping new (remove ms i)))
module-exchanged module_of starts new ms i m some order within read apart =
    let before = take i ms in
    let after = drop (suc i) ms in
    let parts : ms ≡ before ++ m ∷ after =
    sym (take-append-drop i ms) ∙ ap (λ rest. before ++ rest) (drop-cons ms i m within ∙ ap (λ x. x ∷ after) (sym read)) in
    let whole = ap (map module_of) parts in
    let in_order = subst (λ (l : List Mapping). IsInOrder 0 l) parts order in
    let removed = module-removed module_of starts 0 m before after in_order in
    let left = order-removed 0 m before after in_order in
    let split = others-ending new.start 0 (before ++ after) left in
    let front = ending_by new.start (before ++ after) in
    let is = with-apart new some (before ++ after) front split.0 split.1 refl left apart in
    let later = subst (λ (l : List Mapping). IsInOrder 0 l) (sym is) (with_mapping-order new (before ++ after) some left) in (
      ap (has_start m.start) whole ∙ removed.0,
      ap (λ modules. with_module (module_of new) (without_module m.start modules)) whole
          ∙ ap (with_module (module_of new)) (removed.1 ∙ ap (map module_of) split.1)
          ∙ modules-between module_of starts 0 new front split.0 later
          ∙ ap (map module_of) is,
    )
