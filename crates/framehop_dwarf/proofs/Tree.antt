-- A table whose pairs ascend from left to right is a search tree.
use Rattle.std.proofs.Common.{◌≡◌, ℕ, zero, suc, ◌+◌, ◌*◌, ◌/◌, ◌%◌, ◌<◌, ◌≤◌, true, List, ◌∷◌, ◌++◌, length, get_or, length-append, refl, sym, subst, ◌∙◌, arith, inl, inr}
use Rattle.std.proofs.lemmas.Bool.{cases_lt}
use Rattle.std.proofs.lemmas.List.{get_or_append_left, get_or-append-add}
use Rattle.framehop_dwarf.specs.Tree.{not_after, in_order, left_to_right, IsAscending, IsSearchTree, IsUnder, itself, lesser, greater}
use Rattle.framehop_dwarf.proofs.Ascending.{ascending-tail, ascending-left, ascending-right}
use Rattle.framehop_dwarf.proofs.Searched.{opened}

-- the pair stands somewhere in the list
abbrev IsIn : ℕ × ℕ → List (ℕ × ℕ) → Type 0
IsIn x xs = (k : ℕ) × (k < length xs) × (get_or xs k (0, 0) ≡ x)

in-left : (x : ℕ × ℕ) (xs ys : List (ℕ × ℕ)) → IsIn x xs → IsIn x (xs ++ ys)
in-left x xs ys (k, below, is) = (k, omega (arith, length-append xs ys), get_or_append_left xs ys (0, 0) k below ∙ is)

in-right : (x : ℕ × ℕ) (xs ys : List (ℕ × ℕ)) → IsIn x ys → IsIn x (xs ++ ys)
in-right x xs ys (k, below, is) = (length xs + k, omega (arith, length-append xs ys), get_or-append-add xs ys k (0, 0) ∙ is)

in-tail : (x y : ℕ × ℕ) (xs : List (ℕ × ℕ)) → IsIn x xs → IsIn x (y ∷ xs)
in-tail x y xs (k, below, is) = (suc k, omega arith, is)

pub top-le : (j top : ℕ) → IsUnder j top → top ≤ j
top-le j top itself = omega arith
top-le j top (lesser u) = let h = top-le j (2 * top + 1) u in omega arith
top-le j top (greater u) = let h = top-le j (2 * top + 2) u in omega arith

module _ (table : List (ℕ × ℕ)) where
  -- what stands under a place is among its pairs
  has : (levels top j : ℕ) → IsUnder j top → j < length table → length table ≤ top + levels → IsIn (get_or table j (0, 0)) (in_order table levels top)
  has zero top j u below enough = let h = top-le j top u in absurd (omega arith)
  has (suc levels) top j itself below enough =
      let x = get_or table j (0, 0) in
      subst (λ xs. IsIn x xs) (sym (opened table j below levels))
      (in-right x (in_order table levels (2 * j + 1)) (x ∷ in_order table levels (2 * j + 2)) (0, omega arith, refl))
  has (suc levels) top j (lesser u) below enough =
      let x = get_or table j (0, 0) in
      let h = top-le j (2 * top + 1) u in
      let here : top < length table = omega arith in
      let part = has levels (2 * top + 1) j u below (omega arith) in
      subst (λ xs. IsIn x xs) (sym (opened table top here levels))
      (in-left x (in_order table levels (2 * top + 1)) (get_or table top (0, 0) ∷ in_order table levels (2 * top + 2)) part)
  has (suc levels) top j (greater u) below enough =
      let x = get_or table j (0, 0) in
      let h = top-le j (2 * top + 2) u in
      let here : top < length table = omega arith in
      let part = has levels (2 * top + 2) j u below (omega arith) in
      subst (λ xs. IsIn x xs) (sym (opened table top here levels))
      (in-right x (in_order table levels (2 * top + 1)) (get_or table top (0, 0) ∷ in_order table levels (2 * top + 2)) (in-tail x (get_or table top (0, 0)) (in_order table levels (2 * top + 2)) part))

  -- the pairs under a place ascend, with levels enough
  abbrev AscendsAt : ℕ → Type 0
  AscendsAt i = (levels : ℕ) × (length table ≤ i + levels) × IsAscending (in_order table levels i)

  ascends : (levels top i : ℕ) → IsUnder i top → i < length table → length table ≤ top + levels → IsAscending (in_order table levels top) → AscendsAt i
  ascends zero top i u below enough a = let h = top-le i top u in absurd (omega arith)
  ascends (suc levels) top i itself below enough a = (suc levels, enough, a)
  ascends (suc levels) top i (lesser u) below enough a =
      let h = top-le i (2 * top + 1) u in
      let here : top < length table = omega arith in
      let a' = subst IsAscending (opened table top here levels) a in
      ascends levels (2 * top + 1) i u below (omega arith) (ascending-left (in_order table levels (2 * top + 1)) (get_or table top (0, 0) ∷ in_order table levels (2 * top + 2)) a')
  ascends (suc levels) top i (greater u) below enough a =
      let h = top-le i (2 * top + 2) u in
      let here : top < length table = omega arith in
      let a' = subst IsAscending (opened table top here levels) a in
      let t = get_or table top (0, 0) in
      let R = in_order table levels (2 * top + 2) in
      ascends levels (2 * top + 2) i u below (omega arith) (ascending-tail t R (ascending-right (in_order table levels (2 * top + 1)) (t ∷ R) a'))

under-lesser : (at top : ℕ) → IsUnder at top → IsUnder (2 * at + 1) top
under-lesser at top itself = lesser itself
under-lesser at top (lesser u) = lesser (under-lesser at (2 * top + 1) u)
under-lesser at top (greater u) = greater (under-lesser at (2 * top + 2) u)

under-greater : (at top : ℕ) → IsUnder at top → IsUnder (2 * at + 2) top
under-greater at top itself = greater itself
under-greater at top (lesser u) = lesser (under-greater at (2 * top + 1) u)
under-greater at top (greater u) = greater (under-greater at (2 * top + 2) u)

-- each place stands under the first
under-first : (bound at : ℕ) → at ≤ bound → IsUnder at 0
under-first bound zero le = itself
under-first zero (suc at) le = absurd (omega arith)
under-first (suc bound) (suc at) le =
    let k = at / 2 in
    elim (cases_lt (at % 2) 1) as (λ _. IsUnder (suc at) 0) [
      | inl even ↦ (let e : 2 * k + 1 ≡ suc at = omega arith in subst (λ x. IsUnder x 0) e (under-lesser k 0 (under-first bound k (omega arith))))
      | inr odd ↦ (let e : 2 * k + 2 ≡ suc at = omega arith in subst (λ x. IsUnder x 0) e (under-greater k 0 (under-first bound k (omega arith))))
    ]

before-in : (L R : List (ℕ × ℕ)) (t x : ℕ × ℕ) → IsAscending (L ++ (t ∷ R)) → IsIn x L → not_after x t ≡ true
before-in L R t x a (k, below, is) =
    let n = length-append L (t ∷ R) in
    let h = a.ordered k (length L + 0) (omega arith) (omega arith) in
    let h' = rw (get_or_append_left L (t ∷ R) (0, 0) k below, get_or-append-add L (t ∷ R) 0 (0, 0)) at h in
    subst (λ r. not_after r t ≡ true) is h'

after-in : (L R : List (ℕ × ℕ)) (t x : ℕ × ℕ) → IsAscending (L ++ (t ∷ R)) → IsIn x R → not_after t x ≡ true
after-in L R t x a (k, below, is) =
    let h = (ascending-right L (t ∷ R) a).ordered 0 (suc k) (omega arith) (omega arith) in
    subst (λ r. not_after t r ≡ true) is h

pub search-tree : (table : List (ℕ × ℕ)) → IsAscending (left_to_right table) → IsSearchTree table
search-tree table a = record {
  left = λ i j u below.
      let h = top-le j (2 * i + 1) u in
      let here : i < length table = omega arith in
      left-at i j u below here (ascends table (length table) 0 i (under-first i i (omega arith)) here (omega arith) a);
  right = λ i j u below.
      let h = top-le j (2 * i + 2) u in
      let here : i < length table = omega arith in
      right-at i j u below here (ascends table (length table) 0 i (under-first i i (omega arith)) here (omega arith) a);
}
  where
    left-at : (i j : ℕ) → IsUnder j (2 * i + 1) → j < length table → i < length table → AscendsAt table i → not_after (get_or table j (0, 0)) (get_or table i (0, 0)) ≡ true
    left-at i j u below here (zero, enough, b) = absurd (omega arith)
    left-at i j u below here (suc levels, enough, b) =
        before-in (in_order table levels (2 * i + 1)) (in_order table levels (2 * i + 2)) (get_or table i (0, 0)) (get_or table j (0, 0))
        (subst IsAscending (opened table i here levels) b) (has table levels (2 * i + 1) j u below (omega arith))

    right-at : (i j : ℕ) → IsUnder j (2 * i + 2) → j < length table → i < length table → AscendsAt table i → not_after (get_or table i (0, 0)) (get_or table j (0, 0)) ≡ true
    right-at i j u below here (zero, enough, b) = absurd (omega arith)
    right-at i j u below here (suc levels, enough, b) =
        after-in (in_order table levels (2 * i + 1)) (in_order table levels (2 * i + 2)) (get_or table i (0, 0)) (get_or table j (0, 0))
        (subst IsAscending (opened table i here levels) b) (has table levels (2 * i + 2) j u below (omega arith))
