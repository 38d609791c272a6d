-- A search that goes down the tree finds the pair of an address.
use Rattle.std.specs.Option.{option_or}
use Rattle.std.proofs.Common.{◌≡◌, ℕ, zero, suc, ◌+◌, ◌-◌, ◌*◌, ◌^◌, ◌<◌, ◌≤◌, true, List, [], ◌∷◌, ◌++◌, length, get_or, length-append, Option, Some, None, refl, ap, sym, subst, ◌∙◌, arith, inl, inr}
use Rattle.std.specs.Prelude.{option_map, IfSome}
use Rattle.std.proofs.lemmas.Bool.{lt-leb, le-leb, cases_lt}
use Rattle.std.proofs.lemmas.Bool.Decides.{nat_tests}
use Rattle.std.proofs.lemmas.List.{get_or_default, get_or-append-add}
use Rattle.std.proofs.lemmas.Nat.{pow_below}
use Rattle.std.proofs.Math.Nat.{pow-suc}
use Rattle.framehop_dwarf.specs.Index.{later, pair_for, fde_offset_for, Among}
use Rattle.framehop_dwarf.specs.Tree.{not_after, in_order, left_to_right, looked_at, IsWithinDigits, IsAscending}
use Rattle.framehop_dwarf.proofs.Ascending.{ascending-tail, ascending-left, ascending-right}
use Rattle.framehop_dwarf.proofs.Order.{among, pair_for-permutation}
use Rattle.framehop_dwarf.proofs.Permuted.{permuted}
use Rattle.framehop_dwarf.proofs.Filled.{in_order-past}

pub not_after-starts : (a b : ℕ × ℕ) → not_after a b ≡ true → a.0 ≤ b.0
not_after-starts a b h = grind (arith, nat_tests)

-- no start at or below the address
abbrev AllAbove : List (ℕ × ℕ) → ℕ → Type 0
AllAbove xs address = (k : ℕ) → k < length xs → address < (get_or xs k (0, 0)).0

none-above : (xs : List (ℕ × ℕ)) (address : ℕ) → AllAbove xs address → pair_for xs address ≡ None
none-above [] address above = refl
none-above (x ∷ xs) address above =
    rw (lt-leb x.0 address (above 0 (omega arith))) (none-above xs address (λ k below. above (suc k) (omega arith)))

far : (xs ys : List (ℕ × ℕ)) (address : ℕ) → AllAbove ys address → pair_for (xs ++ ys) address ≡ pair_for xs address
far [] ys address above = none-above ys address above
far (x ∷ xs) ys address above = rw (far xs ys address above) refl

head-before : (x : ℕ × ℕ) (zs : List (ℕ × ℕ)) (address : ℕ) (q : ℕ × ℕ) → IsAscending (x ∷ zs) → pair_for zs address ≡ Some q → not_after x q ≡ true
head-before x zs address q a is =
    let found = subst (λ o. Among zs address o) is (among zs address) in
    let there = get_or_default zs found.0 q (0, 0) found.1 in
    let e : get_or zs found.0 (0, 0) ≡ q = sym there ∙ found.2 in
    subst (λ r. not_after x r ≡ true) e (a.ordered 0 (suc found.0) (omega arith) (let f = found.1 in omega arith))

abbrev or_last : Option (ℕ × ℕ) → ℕ × ℕ → ℕ × ℕ
or_last None p = p
or_last (Some q) p = q

later-last : (x : ℕ × ℕ) (zs : List (ℕ × ℕ)) (address : ℕ) (o : Option (ℕ × ℕ)) → IsAscending (x ∷ zs) → pair_for zs address ≡ o → later x o ≡ or_last o x
later-last x zs address None a is = refl
later-last x zs address (Some q) a is = rw (head-before x zs address q a is) refl

near : (xs : List (ℕ × ℕ)) (p : ℕ × ℕ) (ys : List (ℕ × ℕ)) (address : ℕ) → IsAscending (xs ++ (p ∷ ys)) → p.0 ≤ address → pair_for (xs ++ (p ∷ ys)) address ≡ Some (or_last (pair_for ys address) p)
near [] p ys address a at = rw (le-leb p.0 address at) (ap Some (later-last p ys address (pair_for ys address) a refl))
near (x ∷ xs) p ys address a at =
    let rest = near xs p ys address (ascending-tail x (xs ++ (p ∷ ys)) a) at in
    let middle : get_or (xs ++ (p ∷ ys)) (length xs + 0) (0, 0) ≡ p = get_or-append-add xs (p ∷ ys) 0 (0, 0) in
    let n = length-append xs (p ∷ ys) in
    let before = a.ordered 0 (suc (length xs + 0)) (omega arith) (omega arith) in
    let before' : not_after x p ≡ true = subst (λ r. not_after x r ≡ true) middle before in
    let le = not_after-starts x p before' in
    rw (le-leb x.0 address (omega arith), rest) (ap Some (later-last x (xs ++ (p ∷ ys)) address (Some (or_last (pair_for ys address) p)) a rest))

-- what is known before each look: the pairs under the place and what was found answer the search
pub record IsSearching (table : List (ℕ × ℕ)) (address place : ℕ) (found : Option ℕ) (count : ℕ) : Type 0 where
  pub levels : ℕ
  pub enough : length table ≤ place + levels
  pub ascending : IsAscending (in_order table levels place)
  pub rest : option_or (fde_offset_for (in_order table levels place) address) found ≡ fde_offset_for (left_to_right table) address
  pub counts : count + looked_at table address levels place ≡ looked_at table address (length table) 0
  pub low : 2 ^ count ≤ place + 1
  pub few : IsWithinDigits count (length table)

or_none : (o : Option ℕ) → option_or o None ≡ o
or_none None = refl
or_none (Some x) = refl

last-offset : (o : Option (ℕ × ℕ)) (t : ℕ × ℕ) → option_or (option_map (λ (p : ℕ × ℕ). p.1) o) (Some t.1) ≡ Some (or_last o t).1
last-offset None t = refl
last-offset (Some q) t = refl

pub search-begins : (table : List (ℕ × ℕ)) (address : ℕ) → IsAscending (left_to_right table) → IsSearching table address 0 None 0
search-begins table address a = record {
  levels = length table;
  enough = omega arith;
  ascending = a;
  rest = or_none (fde_offset_for (left_to_right table) address);
  counts = omega arith;
  low = omega arith;
  few = λ none. absurd (omega arith);
}

pub search-ends : (table : List (ℕ × ℕ)) (address place : ℕ) (found : Option ℕ) (count : ℕ) → IsSearching table address place found count → length table ≤ place
    → (found ≡ fde_offset_for (left_to_right table) address) × (count ≡ looked_at table address (length table) 0)
search-ends table address place found count s past =
    let e = in_order-past table s.levels place past in
    let r = rw e at s.rest in
    let none = not-looked s.levels in
    (r, omega (arith, none, s.counts))
  where
    not-looked : (levels : ℕ) → looked_at table address levels place ≡ 0
    not-looked zero = refl
    not-looked (suc levels) = rw (le-leb (length table) place past) refl

pub opened : (table : List (ℕ × ℕ)) (place : ℕ) → place < length table → (levels : ℕ) → in_order table (suc levels) place ≡ in_order table levels (2 * place + 1) ++ (get_or table place (0, 0) ∷ in_order table levels (2 * place + 2))
opened table place here levels = rw (lt-leb (length table) place here) refl

module _ (table : List (ℕ × ℕ)) (address place : ℕ) (found : Option ℕ) (count : ℕ) (here : place < length table) where
  deeper : (next : ℕ) → 2 * place + 1 ≤ next → 2 ^ count ≤ place + 1 → (2 ^ (count + 1) ≤ next + 1) × IsWithinDigits (count + 1) (length table)
  deeper next at low =
      let e : count + 1 ≡ suc count = omega arith in
      let e' : count + 1 - 1 ≡ count = omega arith in
      (rw (e, pow-suc 2 count) (omega arith), λ some. rw e' (omega arith))

  -- the pair is at or below the address, and the search goes on among the greater ones
  pub to-greater : (s : IsSearching table address place found count) → (get_or table place (0, 0)).0 ≤ address
      → IsSearching table address (2 * place + 2) (Some (get_or table place (0, 0)).1) (count + 1)
  to-greater s at = go s.levels s.enough s.ascending s.rest s.counts
    where
      go : (levels : ℕ) → length table ≤ place + levels → IsAscending (in_order table levels place)
          → option_or (fde_offset_for (in_order table levels place) address) found ≡ fde_offset_for (left_to_right table) address
          → count + looked_at table address levels place ≡ looked_at table address (length table) 0
          → IsSearching table address (2 * place + 2) (Some (get_or table place (0, 0)).1) (count + 1)
      go zero enough a rest counts = absurd (omega arith)
      go (suc levels) enough a rest counts =
          let t = get_or table place (0, 0) in
          let L = in_order table levels (2 * place + 1) in
          let R = in_order table levels (2 * place + 2) in
          let a' = subst IsAscending (opened table place here levels) a in
          let rest' : option_or (fde_offset_for (L ++ (t ∷ R)) address) found ≡ fde_offset_for (left_to_right table) address = subst (λ xs. option_or (fde_offset_for xs address) found ≡ fde_offset_for (left_to_right table) address) (opened table place here levels) rest in
          let e = ap (λ o. option_or (option_map (λ (p : ℕ × ℕ). p.1) o) found) (near L t R address a' at) in
          let d = deeper (2 * place + 2) (omega arith) s.low in
          let looked : looked_at table address (suc levels) place ≡ suc (looked_at table address levels (2 * place + 2)) = rw (lt-leb (length table) place here, le-leb t.0 address at) refl in
          record {
            levels = levels;
            enough = omega arith;
            ascending = ascending-tail t R (ascending-right L (t ∷ R) a');
            rest = last-offset (pair_for R address) t ∙ sym e ∙ rest';
            counts = omega (arith, looked, counts);
            low = d.0;
            few = d.1;
          }

  -- the pair is above the address, and the search goes on among the lesser ones
  pub to-lesser : (s : IsSearching table address place found count) → address < (get_or table place (0, 0)).0
      → IsSearching table address (2 * place + 1) found (count + 1)
  to-lesser s above = go s.levels s.enough s.ascending s.rest s.counts
    where
      go : (levels : ℕ) → length table ≤ place + levels → IsAscending (in_order table levels place)
          → option_or (fde_offset_for (in_order table levels place) address) found ≡ fde_offset_for (left_to_right table) address
          → count + looked_at table address levels place ≡ looked_at table address (length table) 0
          → IsSearching table address (2 * place + 1) found (count + 1)
      go zero enough a rest counts = absurd (omega arith)
      go (suc levels) enough a rest counts =
          let t = get_or table place (0, 0) in
          let L = in_order table levels (2 * place + 1) in
          let R = in_order table levels (2 * place + 2) in
          let a' = subst IsAscending (opened table place here levels) a in
          let rest' : option_or (fde_offset_for (L ++ (t ∷ R)) address) found ≡ fde_offset_for (left_to_right table) address = subst (λ xs. option_or (fde_offset_for xs address) found ≡ fde_offset_for (left_to_right table) address) (opened table place here levels) rest in
          let a2 = ascending-right L (t ∷ R) a' in
          let all : AllAbove (t ∷ R) address = λ k below. let h = not_after-starts t (get_or (t ∷ R) k (0, 0)) (a2.ordered 0 k (omega arith) below) in omega arith in
          let e = ap (λ o. option_or (option_map (λ (p : ℕ × ℕ). p.1) o) found) (far L (t ∷ R) address all) in
          let d = deeper (2 * place + 1) (omega arith) s.low in
          let looked : looked_at table address (suc levels) place ≡ suc (looked_at table address levels (2 * place + 1)) = rw (lt-leb (length table) place here, lt-leb t.0 address above) refl in
          record {
            levels = levels;
            enough = omega arith;
            ascending = ascending-left L (t ∷ R) a';
            rest = sym e ∙ rest';
            counts = omega (arith, looked, counts);
            low = d.0;
            few = d.1;
          }

-- the same of the place of what was found
pub record IsSearchingBy (table : List (ℕ × ℕ)) (address place : ℕ) (found : Option ℕ) (count : ℕ) : Type 0 where
  pub searching : IsSearching table address place (option_map (λ at. (get_or table at (0, 0)).1) found) count
  pub inside : IfSome found (λ at. at < length table)

pub on-to-greater : (table : List (ℕ × ℕ)) (address place : ℕ) (found : Option ℕ) (count next : ℕ) (new : Option ℕ) → IsSearchingBy table address place found count → place < length table
    → (get_or table place (0, 0)).0 ≤ address → new ≡ Some place → next ≡ 2 * place + 2 → IsSearchingBy table address next new (count + 1)
on-to-greater table address place found count next new s here at is further =
    rw (is, further) (record { searching = to-greater table address place _ count here s.searching at; inside = here })

pub on-to-lesser : (table : List (ℕ × ℕ)) (address place : ℕ) (found : Option ℕ) (count next : ℕ) (new : Option ℕ) → IsSearchingBy table address place found count → place < length table
    → address < (get_or table place (0, 0)).0 → new ≡ found → next ≡ 2 * place + 1 → IsSearchingBy table address next new (count + 1)
on-to-lesser table address place found count next new s here above is further =
    rw (is, further) (record { searching = to-lesser table address place _ count here s.searching above; inside = s.inside })

-- the FDE of an address does not depend on the order
pub same-offset : (tree : List (ℕ × ℕ)) (address : ℕ) → fde_offset_for (left_to_right tree) address ≡ fde_offset_for tree address
same-offset tree address = ap (λ o. option_map (λ (pair : ℕ × ℕ). pair.1) o) (pair_for-permutation (left_to_right tree) tree address (permuted tree))

-- a count of looks fits any width
pub count-small : (count place : ℕ) → 2 ^ count ≤ place + 1 → place < 2 ^ 64 → count ≤ 64
count-small count place low fits =
    elim (cases_lt 64 count) as (λ _. count ≤ 64) [
      | inl more ↦ absurd (let h = pow_below 64 count more in omega arith)
      | inr less ↦ less
    ]
