-- The pairs from left to right are those of the table.
use Rattle.std.proofs.Common.{◌≡◌, ℕ, zero, suc, ◌+◌, ◌*◌, ◌≤◌, List, [], ◌∷◌, ◌++◌, length, get_or, take, drop, refl, subst, arith, inl, inr, append_assoc}
use Rattle.std.specs.List.Sorted.{IsPermutation}
use Rattle.std.proofs.lemmas.Bool.{lt-leb, le-leb, cases_lt}
use Rattle.std.proofs.lemmas.List.{append-nil, drop-drop, drop_all, drop_more, take-append-drop}
use Rattle.std.proofs.lemmas.List.Sorted.{IsPermutation-refl, IsPermutation-trans, IsPermutation-cons, IsPermutation-middle, IsPermutation-append_comm, IsPermutation-append_left, IsPermutation-append_right}
use Rattle.framehop_dwarf.specs.Tree.{in_order, left_to_right}
use Rattle.framehop_dwarf.proofs.Filled.{in_order-past}

-- the trees at so many places, one after the other
abbrev forest : List (ℕ × ℕ) → ℕ → ℕ → ℕ → List (ℕ × ℕ)
forest table levels at zero = []
forest table levels at (suc m) = in_order table levels at ++ forest table levels (at + 1) m

take-none : (k : ℕ) → ◌≡◌ {A = List (ℕ × ℕ)} (take k []) []
take-none zero = refl
take-none (suc k) = refl

take-drop : (xs : List (ℕ × ℕ)) (j k : ℕ) → take j (drop k xs) ++ drop (k + j) xs ≡ drop k xs
take-drop xs j k = rw (← drop-drop j k xs) (take-append-drop j (drop k xs))

no-trees : (table : List (ℕ × ℕ)) (at m : ℕ) → forest table zero at m ≡ []
no-trees table at zero = refl
no-trees table at (suc m) = no-trees table (at + 1) m

-- a tree's root goes before its two subtrees
parted : (L R F S G : List (ℕ × ℕ)) (t : ℕ × ℕ) → IsPermutation F (S ++ G) → IsPermutation ((L ++ (t ∷ R)) ++ F) (t ∷ (S ++ (L ++ (R ++ G))))
parted L R F S G t p =
    let one : IsPermutation (L ++ (t ∷ (R ++ F))) (t ∷ (L ++ (R ++ F))) = IsPermutation-middle L t (R ++ F) in
    let two : IsPermutation ((L ++ R) ++ F) ((L ++ R) ++ (S ++ G)) = IsPermutation-append_right (L ++ R) F (S ++ G) p in
    let three : IsPermutation (((L ++ R) ++ S) ++ G) ((S ++ (L ++ R)) ++ G) = IsPermutation-append_left G ((L ++ R) ++ S) (S ++ (L ++ R)) (IsPermutation-append_comm (L ++ R) S) in
    let two' = simp append_assoc at two in
    let three' = simp append_assoc at three in
    let inner = IsPermutation-trans (L ++ (R ++ F)) (L ++ (R ++ (S ++ G))) (S ++ (L ++ (R ++ G))) two' three' in
    rw append_assoc (IsPermutation-trans (L ++ (t ∷ (R ++ F))) (t ∷ (L ++ (R ++ F))) (t ∷ (S ++ (L ++ (R ++ G)))) one (IsPermutation-cons t (L ++ (R ++ F)) (S ++ (L ++ (R ++ G))) inner))

-- the roots of the trees at a row of places, and then the trees under them
rooted : (table : List (ℕ × ℕ)) (levels at m : ℕ) → IsPermutation (forest table (suc levels) at m) (take m (drop at table) ++ forest table levels (2 * at + 1) (2 * m))
rooted table levels at zero = IsPermutation-refl []
rooted table levels at (suc m) =
    let rest = rooted table levels (at + 1) m in
    let n1 : 2 * (at + 1) + 1 ≡ 2 * at + 1 + 1 + 1 = omega arith in
    let n2 : 2 * suc m ≡ suc (suc (2 * m)) = omega arith in
    let n3 : 2 * at + 2 ≡ 2 * at + 1 + 1 = omega arith in
    elim (cases_lt at (length table)) as (λ _. IsPermutation (forest table (suc levels) at (suc m)) (take (suc m) (drop at table) ++ forest table levels (2 * at + 1) (2 * suc m))) [
      | inl there ↦ rw (lt-leb (length table) at there, n2, n3, drop_more table at (0, 0) there)
          (parted (in_order table levels (2 * at + 1)) (in_order table levels (2 * at + 1 + 1)) (forest table (suc levels) (at + 1) m) (take m (drop (at + 1) table)) (forest table levels (2 * at + 1 + 1 + 1) (2 * m)) (get_or table at (0, 0)) (rw n1 at rest))
      | inr past ↦
          (let rest' = rw (drop_all (at + 1) table (omega arith), take-none m, n1) at rest in
          rw (le-leb (length table) at past, n2, drop_all at table past, in_order-past table levels (2 * at + 1) (omega arith), in_order-past table levels (2 * at + 1 + 1) (omega arith)) rest')
    ]

deep : (table : List (ℕ × ℕ)) (levels at : ℕ) → length table ≤ at + levels → IsPermutation (forest table levels at (at + 1)) (drop at table)
deep table zero at all = rw (no-trees table at (at + 1), drop_all at table (omega arith)) (IsPermutation-refl [])
deep table (suc levels) at all =
    let roots = rooted table levels at (at + 1) in
    let n1 : 2 * (at + 1) ≡ 2 * at + 1 + 1 = omega arith in
    let n2 : 2 * at + 1 ≡ at + (at + 1) = omega arith in
    let below = deep table levels (2 * at + 1) (omega arith) in
    let joined = IsPermutation-append_right (take (at + 1) (drop at table)) (forest table levels (2 * at + 1) (2 * at + 1 + 1)) (drop (2 * at + 1) table) below in
    let e : take (at + 1) (drop at table) ++ drop (2 * at + 1) table ≡ drop at table = rw n2 (take-drop table (at + 1) at) in
    subst (λ xs. IsPermutation (forest table (suc levels) at (at + 1)) xs) e
    (IsPermutation-trans (forest table (suc levels) at (at + 1)) (take (at + 1) (drop at table) ++ forest table levels (2 * at + 1) (2 * at + 1 + 1)) (take (at + 1) (drop at table) ++ drop (2 * at + 1) table) (rw n1 at roots) joined)

pub permuted : (table : List (ℕ × ℕ)) → IsPermutation (left_to_right table) table
permuted table =
    let all = deep table (length table) 0 (omega arith) in
    subst (λ xs. IsPermutation xs table) (append-nil (in_order table (length table) 0)) all
