-- The pair of an address depends on which pairs there are, and not on their order.
use Rattle.std.proofs.Common.{◌≡◌, ℕ, zero, suc, ◌<◌, ◌≤◌, true, false, List, [], ◌∷◌, length, get_or, Option, Some, None, refl, ap, sym, subst, arith, inl, inr, if◌then◌else◌}
use Rattle.std.proofs.lemmas.Bool.{lt-leb, le-leb, cases_lt, cases_Bool}
use Rattle.std.proofs.lemmas.Bool.Decides.{nat_tests}
use Rattle.std.specs.Prelude.{Contains}
use Rattle.std.specs.List.Sorted.{IsPermutation}
use Rattle.std.proofs.lemmas.List.Sorted.{Contains-permutation, IsPermutation-sym}
use Rattle.framehop_dwarf.specs.Tree.{not_after}
use Rattle.framehop_dwarf.specs.Index.{later, pair_for, fde_offset_for, Greatest, Among, IsFdeFor}

pub not_after-refl : (a : ℕ × ℕ) → not_after a a ≡ true
not_after-refl a = grind (arith, nat_tests)

pub not_after-trans : (a b c : ℕ × ℕ) → not_after a b ≡ true → not_after b c ≡ true → not_after a c ≡ true
not_after-trans a b c p q = grind (arith, nat_tests)

not_after-other : (a b : ℕ × ℕ) → not_after a b ≡ false → not_after b a ≡ true
not_after-other a b p = grind (arith, nat_tests)

not_after-anti : (a b : ℕ × ℕ) → not_after a b ≡ true → not_after b a ≡ true → (a.0 ≡ b.0) × (a.1 ≡ b.1)
not_after-anti a b p q = (grind (arith, nat_tests), grind (arith, nat_tests))

module _ (x : ℕ × ℕ) (pairs : List (ℕ × ℕ)) (address : ℕ) where
  near-none : x.0 ≤ address → Greatest pairs address None → Greatest (x ∷ pairs) address (Some x)
  near-none near rest zero d below at = not_after-refl x
  near-none near rest (suc k) d below at = let above = rest k d (omega arith) in absurd (omega arith)

  far-none : address < x.0 → Greatest pairs address None → Greatest (x ∷ pairs) address None
  far-none far rest zero d below = far
  far-none far rest (suc k) d below = rest k d (omega arith)

  near-later : (pair : ℕ × ℕ) → not_after x pair ≡ true → Greatest pairs address (Some pair) → Greatest (x ∷ pairs) address (Some pair)
  near-later pair is rest zero d below at = is
  near-later pair is rest (suc k) d below at = rest k d (omega arith) at

  near-earlier : (pair : ℕ × ℕ) → not_after x pair ≡ false → Greatest pairs address (Some pair) → Greatest (x ∷ pairs) address (Some x)
  near-earlier pair is rest zero d below at = not_after-refl x
  near-earlier pair is rest (suc k) d below at = not_after-trans (get_or pairs k d) pair x (rest k d (omega arith) at) (not_after-other x pair is)

  far-some : (pair : ℕ × ℕ) → address < x.0 → Greatest pairs address (Some pair) → Greatest (x ∷ pairs) address (Some pair)
  far-some pair far rest zero d below at = absurd (omega arith)
  far-some pair far rest (suc k) d below at = rest k d (omega arith) at

  moved : (pair : ℕ × ℕ) → Among pairs address (Some pair) → Among (x ∷ pairs) address (Some pair)
  moved pair (k, below, is, near) = (suc k, omega arith, is, near)

  near-greatest : (o : Option (ℕ × ℕ)) → x.0 ≤ address → Greatest pairs address o → Greatest (x ∷ pairs) address (Some (later x o))
  near-greatest None near rest = near-none near rest
  near-greatest (Some pair) near rest =
      elim (cases_Bool (not_after x pair)) as (λ _. Greatest (x ∷ pairs) address (Some (if not_after x pair then pair else x))) [
        | inl e ↦ rw e (near-later pair e rest)
        | inr e ↦ rw e (near-earlier pair e rest)
      ]

  near-among : (o : Option (ℕ × ℕ)) → x.0 ≤ address → Among pairs address o → Among (x ∷ pairs) address (Some (later x o))
  near-among None near rest = (zero, omega arith, refl, near)
  near-among (Some pair) near rest =
      elim (cases_Bool (not_after x pair)) as (λ _. Among (x ∷ pairs) address (Some (if not_after x pair then pair else x))) [
        | inl e ↦ rw e (moved pair rest)
        | inr e ↦ rw e (zero, omega arith, refl, near)
      ]

  far-greatest : (o : Option (ℕ × ℕ)) → address < x.0 → Greatest pairs address o → Greatest (x ∷ pairs) address o
  far-greatest None far rest = far-none far rest
  far-greatest (Some pair) far rest = far-some pair far rest

  far-among : (o : Option (ℕ × ℕ)) → Among pairs address o → Among (x ∷ pairs) address o
  far-among None rest = rest
  far-among (Some pair) rest = moved pair rest

pub greatest : (pairs : List (ℕ × ℕ)) (address : ℕ) → Greatest pairs address (pair_for pairs address)
greatest [] address = λ k d below. absurd (omega arith)
greatest (x ∷ pairs) address =
    elim (cases_lt address x.0) as (λ _. Greatest (x ∷ pairs) address (pair_for (x ∷ pairs) address)) [
      | inl far ↦ rw (lt-leb x.0 address far) (far-greatest x pairs address (pair_for pairs address) far (greatest pairs address))
      | inr near ↦ rw (le-leb x.0 address near) (near-greatest x pairs address (pair_for pairs address) near (greatest pairs address))
    ]

pub among : (pairs : List (ℕ × ℕ)) (address : ℕ) → Among pairs address (pair_for pairs address)
among [] address = tt
among (x ∷ pairs) address =
    elim (cases_lt address x.0) as (λ _. Among (x ∷ pairs) address (pair_for (x ∷ pairs) address)) [
      | inl far ↦ rw (lt-leb x.0 address far) (far-among x pairs address (pair_for pairs address) (among pairs address))
      | inr near ↦ rw (le-leb x.0 address near) (near-among x pairs address (pair_for pairs address) near (among pairs address))
    ]

-- two lists with the same elements
abbrev pub Holds : List (ℕ × ℕ) → List (ℕ × ℕ) → Type 0
Holds xs ys = (k : ℕ) (d : ℕ × ℕ) → k < length xs → Contains ys (get_or xs k d)

pub same-pair : (a b : ℕ × ℕ) → a.0 ≡ b.0 → a.1 ≡ b.1 → a ≡ b
same-pair a b p q = λ i. (p i, q i)

-- a pair of an address lies at or before that of a list that holds it
at-or-before : (ys : List (ℕ × ℕ)) (address : ℕ) (pair other : ℕ × ℕ) → Contains ys pair → pair.0 ≤ address → Greatest ys address (Some other) → not_after pair other ≡ true
at-or-before ys address pair other there near g =
    subst (λ r. not_after r other ≡ true) there.2 (g there.0 pair there.1 (subst (λ (r : ℕ × ℕ). r.0 ≤ address) (sym there.2) near))

-- a list whose starts all lie above an address holds no pair at or below it
not-there : (ys : List (ℕ × ℕ)) (address : ℕ) (pair : ℕ × ℕ) → Contains ys pair → pair.0 ≤ address → Greatest ys address None → ⊥
not-there ys address pair there near g =
    let far = g there.0 pair there.1 in
    let same = ap (λ (r : ℕ × ℕ). r.0) there.2 in
    omega arith

-- an element of the one list, in the other
found : (xs ys : List (ℕ × ℕ)) (address : ℕ) (pair : ℕ × ℕ) → IsPermutation xs ys → Among xs address (Some pair) → Contains ys pair
found xs ys address pair p a = Contains-permutation xs ys pair p (a.0, a.1, a.2)

-- there is one pair of an address
pub one-pair_for : (xs ys : List (ℕ × ℕ)) (address : ℕ) (a b : Option (ℕ × ℕ)) → IsPermutation xs ys → Greatest xs address a → Among xs address a → Greatest ys address b → Among ys address b → a ≡ b
one-pair_for xs ys address None None p ga aa gb ab = refl
one-pair_for xs ys address None (Some pair) p ga aa gb ab =
    absurd (not-there xs address pair (found ys xs address pair (IsPermutation-sym xs ys p) ab) ab.3 ga)
one-pair_for xs ys address (Some pair) None p ga aa gb ab =
    absurd (not-there ys address pair (found xs ys address pair p aa) aa.3 gb)
one-pair_for xs ys address (Some pair) (Some other) p ga aa gb ab =
    let first = at-or-before ys address pair other (found xs ys address pair p aa) aa.3 gb in
    let second = at-or-before xs address other pair (found ys xs address other (IsPermutation-sym xs ys p) ab) ab.3 ga in
    let both = not_after-anti pair other first second in
    ap Some (same-pair pair other both.0 both.1)

-- the order of the pairs does not matter
pub pair_for-permutation : (xs ys : List (ℕ × ℕ)) (address : ℕ) → IsPermutation xs ys → pair_for xs address ≡ pair_for ys address
pair_for-permutation xs ys address p =
    one-pair_for xs ys address (pair_for xs address) (pair_for ys address) p (greatest xs address) (among xs address) (greatest ys address) (among ys address)

-- the FDE of an address is that of the greatest pair before it
pub fde-for : (pairs : List (ℕ × ℕ)) (address : ℕ) (offset : Option ℕ) → offset ≡ fde_offset_for pairs address → IsFdeFor pairs address offset
fde-for pairs address offset is = (pair_for pairs address, sym is, greatest pairs address, among pairs address)
