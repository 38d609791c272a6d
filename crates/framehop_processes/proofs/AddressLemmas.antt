-- What is mapped at each address after a new mapping.
use Rattle.std.proofs.Common.{◌≡◌, ℕ, ◌<◌, ◌≤◌, Bool, true, false, cond, nat_le, nat_lt, ◌&&◌, min, max, List, [], ◌∷◌, ◌++◌, filter, map, Option, Some, None, option_map, refl, ap, ◌∙◌, arith}
use Rattle.std.specs.List.{find}
use Rattle.std.proofs.lemmas.Bool.{leb-true, leb-false, ltb-true, ltb-false, le-leb, lt-leb, cond_both}
use Rattle.framehop_processes.specs.declared.mapping.Mapping.{Mapping}
use Rattle.framehop_processes.specs.Mappings.{part_below, part_above, below, above, with_mapping, covers, content, mapped_at}

by-bool : (b : Bool) (P : Bool → Type 0) → (b ≡ true → P true) → (b ≡ false → P false) → P b
by-bool true P t f = t refl
by-bool false P t f = f refl

-- ---- tests of one address

lt-min : (a end s : ℕ) → a < s → nat_lt a (min end s) ≡ nat_lt a end
lt-min a end s low =
    by-bool (nat_lt a end) (λ b. nat_lt a (min end s) ≡ b)
    (λ is. let here = ltb-true _ _ is in le-leb _ _ (omega (arith, here, low)))
    (λ is. let here = ltb-false _ _ is in lt-leb _ _ (omega (arith, here)))

le-max : (a start e : ℕ) → e ≤ a → nat_le (max start e) a ≡ nat_le start a
le-max a start e high =
    by-bool (nat_le start a) (λ b. nat_le (max start e) a ≡ b)
    (λ is. let here = leb-true _ _ is in le-leb _ _ (omega (arith, here, high)))
    (λ is. let here = leb-false _ _ is in lt-leb _ _ (omega (arith, here)))

and-false : (b : Bool) → (b && false) ≡ false
and-false true = refl
and-false false = refl

found-alike : (test : Bool) (x y : Mapping) (p q : Option Mapping) → content x ≡ content y
    → option_map content p ≡ option_map content q
    → option_map content (cond test (Some x) p) ≡ option_map content (cond test (Some y) q)
found-alike true x y p q one others = ap (λ c. Some c) one
found-alike false x y p q one others = others

find-after : (test : Mapping → Bool) (xs ys : List Mapping) → find test xs ≡ None → find test (xs ++ ys) ≡ find test ys
find-after test [] ys none = refl
find-after test (x ∷ xs) ys none =
    cond_both (test x) (Some x) (find test xs) (λ found. found ≡ None → cond (test x) (Some x) (find test (xs ++ ys)) ≡ find test ys)
    (λ is e. cc)
    (λ is e. rw is (find-after test xs ys e)) none

find-before : (test : Mapping → Bool) (xs ys : List Mapping) → find test ys ≡ None → find test (xs ++ ys) ≡ find test xs
find-before test [] ys none = none
find-before test (x ∷ xs) ys none = ap (λ found. cond (test x) (Some x) found) (find-before test xs ys none)

-- ---- what lies below an address, and above one

module _ (a : ℕ) where
  below-same : (s : ℕ) (ms : List Mapping) → a < s → mapped_at a (below s ms) ≡ mapped_at a ms
  below-same s [] low = refl
  below-same s (m ∷ ms) low =
      let rest = below-same s ms low in
      cond_both (nat_lt m.start s) (m ∷ filter (λ n. nat_lt n.start s) ms) (filter (λ n. nat_lt n.start s) ms)
      (λ kept. mapped_at a (map (part_below s) kept) ≡ mapped_at a (m ∷ ms))
      (λ is. rw (lt-min a m.end s low) (found-alike (covers a m) (part_below s m) m _ _ refl rest))
      (λ is. let from = ltb-false _ _ is in
      let here : nat_le m.start a ≡ false = lt-leb _ _ (omega (arith, from, low)) in
      rw here rest)

  above-same : (e : ℕ) (ms : List Mapping) → e ≤ a → mapped_at a (above e ms) ≡ mapped_at a ms
  above-same e [] high = refl
  above-same e (m ∷ ms) high =
      let rest = above-same e ms high in
      cond_both (nat_lt e m.end) (m ∷ filter (λ n. nat_lt e n.end) ms) (filter (λ n. nat_lt e n.end) ms)
      (λ kept. mapped_at a (map (part_above e) kept) ≡ mapped_at a (m ∷ ms))
      (λ is. rw (le-max a m.start e high) (found-alike (covers a m) (part_above e m) m _ _ refl rest))
      (λ is. let by = ltb-false _ _ is in
      let here : nat_lt a m.end ≡ false = lt-leb _ _ (omega (arith, by, high)) in
      rw (here, and-false (nat_le m.start a)) rest)

  below-none : (s : ℕ) (ms : List Mapping) → s ≤ a → find (covers a) (below s ms) ≡ None
  below-none s [] high = refl
  below-none s (m ∷ ms) high =
      let rest = below-none s ms high in
      cond_both (nat_lt m.start s) (m ∷ filter (λ n. nat_lt n.start s) ms) (filter (λ n. nat_lt n.start s) ms)
      (λ kept. find (covers a) (map (part_below s) kept) ≡ None)
      (λ is. let here : nat_lt a (min m.end s) ≡ false = lt-leb _ _ (omega (arith, high)) in
      rw (here, and-false (nat_le m.start a)) rest)
      (λ is. rest)

  above-none : (e : ℕ) (ms : List Mapping) → a < e → find (covers a) (above e ms) ≡ None
  above-none e [] low = refl
  above-none e (m ∷ ms) low =
      let rest = above-none e ms low in
      cond_both (nat_lt e m.end) (m ∷ filter (λ n. nat_lt e n.end) ms) (filter (λ n. nat_lt e n.end) ms)
      (λ kept. find (covers a) (map (part_above e) kept) ≡ None)
      (λ is. let here : nat_le (max m.start e) a ≡ false = lt-leb _ _ (omega (arith, low)) in
      rw here rest)
      (λ is. rest)

  module _ (new : Mapping) (ms : List Mapping) (some : new.start < new.end) where
    before-new : a < new.start → mapped_at a (with_mapping new ms) ≡ mapped_at a ms
    before-new low =
        let here : nat_le new.start a ≡ false = lt-leb _ _ (omega (arith, low)) in
        let later : find (covers a) (new ∷ above new.end ms) ≡ None = rw here (above-none new.end ms (omega (arith, low, some))) in
        ap (option_map content) (find-before (covers a) (below new.start ms) (new ∷ above new.end ms) later)
        ∙ below-same new.start ms low

    in-new : new.start ≤ a → a < new.end → mapped_at a (with_mapping new ms) ≡ Some (content new)
    in-new from to =
        let here : covers a new ≡ true = rw (le-leb _ _ from, le-leb _ _ to) refl in
        ap (option_map content) (find-after (covers a) (below new.start ms) (new ∷ above new.end ms) (below-none new.start ms from)
        ∙ ap (λ (b : Bool). cond b (Some new) (find (covers a) (above new.end ms))) here)

    after-new : new.end ≤ a → mapped_at a (with_mapping new ms) ≡ mapped_at a ms
    after-new high =
        let here : nat_lt a new.end ≡ false = lt-leb _ _ (omega (arith, high)) in
        let not_new : covers a new ≡ false = rw here (and-false (nat_le new.start a)) in
        ap (option_map content) (find-after (covers a) (below new.start ms) (new ∷ above new.end ms) (below-none new.start ms (omega (arith, high, some)))
        ∙ ap (λ (b : Bool). cond b (Some new) (find (covers a) (above new.end ms))) not_new)
        ∙ above-same new.end ms high

    -- an address of the new mapping has its content, and each other the one that it had
    pub mapped-by_address : mapped_at a (with_mapping new ms) ≡ cond (covers a new) (Some (content new)) (mapped_at a ms)
    mapped-by_address =
        by-bool (nat_le new.start a) (λ b. mapped_at a (with_mapping new ms) ≡ cond (b && nat_lt a new.end) (Some (content new)) (mapped_at a ms))
        (λ is. by-bool (nat_lt a new.end) (λ b. mapped_at a (with_mapping new ms) ≡ cond b (Some (content new)) (mapped_at a ms))
        (λ to. in-new (leb-true _ _ is) (ltb-true _ _ to))
        (λ to. after-new (ltb-false _ _ to)))
        (λ is. before-new (leb-false _ _ is))
