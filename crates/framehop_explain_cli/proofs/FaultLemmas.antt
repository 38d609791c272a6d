-- Lists of values, tested one by one, and sets of names.
use Rattle.std.proofs.Common.{◌≡◌, ℕ, ◌+◌, ◌<◌, ◌≤◌, Bool, true, false, not, cond, ◌||◌, List, ◌∷◌, drop, get_or, length, Result, Ok, Err, IfOk, refl, sym, ap, ◌∙◌, Bor}
use Rattle.std.specs.Ordering.{nat_cmp, is_eq}
use Rattle.std.specs.Cmp.Lexicographic.{slice_cmp}
use Rattle.std.specs.BTreeSet.{BTreeSet, contains}
use Rattle.std.specs.List.{list_any}
use Rattle.std.specs.Str.{bytes_eq}
use Rattle.std.proofs.lemmas.Slice.Eq.{bytes_eq-Decides}
use Rattle.std.proofs.lemmas.Map.Text.{is_eq-slice_cmp}
use Rattle.serde_json.specs.Data.{Data}
use Rattle.serde_json.specs.View.{view, items_view}
use Rattle.serde_json.specs.declared.value.Value.{Value}
use Rattle.framehop_bytes.specs.Bytes.{◌>>=◌}
use Rattle.framehop_explain_cli.specs.Faults.{Wrong, Finding, test_items, HasNames}
use Rattle.framehop_explain_cli.proofs.SessionLemmas.{items-more, items-end}

module _ {S : Type 0} (next : S → Data → S) (one : ℕ → S → Data → Finding (Unit {0})) where
  -- one more that is right
  pub tests-more : (number : ℕ) (known : S) (values : List Value) (i : ℕ) (value : Value)
      → i < length values → value ≡ get_or values i value → one number known (view value) ≡ Ok tt
      → test_items next one number known (items_view (drop i values))
      ≡ test_items next one (number + 1) (next known (view value)) (items_view (drop (i + 1) values))
  unfolding test_items
  tests-more number known values i value within is right =
      ap (test_items next one number known) (items-more values i value within is)
      ∙ ap (λ r. r >>= λ passed. test_items next one (number + 1) (next known (view value)) (items_view (drop (i + 1) values))) right

  -- one that is wrong
  pub tests-wrong : (number : ℕ) (known : S) (values : List Value) (i : ℕ) (value : Value) (fault : Wrong)
      → i < length values → value ≡ get_or values i value → one number known (view value) ≡ Err fault
      → test_items next one number known (items_view (drop i values)) ≡ Err fault
  unfolding test_items
  tests-wrong number known values i value fault within is wrong =
      ap (test_items next one number known) (items-more values i value within is)
      ∙ ap (λ r. r >>= λ passed. test_items next one (number + 1) (next known (view value)) (items_view (drop (i + 1) values))) wrong

  -- all are right
  pub tests-end : (number : ℕ) (known : S) (values : List Value) (i : ℕ) → length values ≤ i
      → test_items next one number known (items_view (drop i values)) ≡ Ok tt
  unfolding test_items
  tests-end number known values i past = ap (test_items next one number known) (items-end values i past)

both_ways-same : (a b : Bool) → (a ≡ true → b ≡ true) → (b ≡ true → a ≡ true) → a ≡ b
both_ways-same true b to from = sym (to refl)
both_ways-same false true to from = from refl
both_ways-same false false to from = refl

bytes_eq-sym : (xs ys : List ℕ) → bytes_eq xs ys ≡ bytes_eq ys xs
bytes_eq-sym xs ys =
    let d = bytes_eq-Decides xs ys in let e = bytes_eq-Decides ys xs in
    both_ways-same (bytes_eq xs ys) (bytes_eq ys xs) (λ h. e.1 (sym (d.0 h))) (λ h. d.1 (sym (e.0 h)))

or-cond : (b before : Bool) → cond b true before ≡ (b || before)
or-cond true before = refl
or-cond false before = refl

-- the set's names with one more
pub names-more : (before after : BTreeSet (Bor (List ℕ))) (names : List (List ℕ)) (name : Bor (List ℕ))
    → HasNames before names
    → ((q : Bor (List ℕ)) → contains (λ x y. slice_cmp nat_cmp x.now y.now) after q
    ≡ cond (is_eq (slice_cmp nat_cmp name.now q.now)) true (contains (λ x y. slice_cmp nat_cmp x.now y.now) before q))
    → HasNames after (name.now ∷ names)
names-more before after names name has adds =
    λ q. adds q ∙ ap (λ b. cond (is_eq (slice_cmp nat_cmp name.now q.now)) true b) (has q)
    ∙ or-cond (is_eq (slice_cmp nat_cmp name.now q.now)) (list_any (bytes_eq q.now) names)
    ∙ ap (λ b. b || list_any (bytes_eq q.now) names) (is_eq-slice_cmp name.now q.now ∙ bytes_eq-sym name.now q.now)

-- whether the set had the name
pub present : (added has : Bool) → added ≡ not has → added ≡ false → has ≡ true
present added true is fails = refl
present added false is fails = let bad : ⊥ = cc in absurd bad

pub absent : (added has : Bool) → added ≡ not has → added ≡ true → has ≡ false
absent added false is holds = refl
absent added true is holds = let bad : ⊥ = cc in absurd bad

-- what holds anyway
pub always : {A E : Type 0} {P : Type 0} (result : Result A E) → P → IfOk result (λ value. P)
always (Ok value) holds = holds
always (Err error) holds = tt
