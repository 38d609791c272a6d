-- Lists of values, read one by one.
use Rattle.std.proofs.Common.{◌≡◌, ℕ, ◌+◌, ◌<◌, ◌≤◌, List, [], ◌∷◌, ◌++◌, drop, get_or, length, Ok, Err, sym, ap, ◌∙◌, drop-cons, suc, arith}
use Rattle.std.proofs.lemmas.List.{drop_all}
use Rattle.serde_json.specs.Data.{Data, item}
use Rattle.serde_json.specs.View.{view, items_view}
use Rattle.serde_json.specs.declared.value.Value.{Value}
use Rattle.framehop_walk.specs.Refusals.{Reading, and_then}
use Rattle.framehop_walk.specs.Fields.{each}

drop_next : (values : List Value) (i : ℕ) (value : Value) → i < length values → drop i values ≡ get_or values i value ∷ drop (i + 1) values
drop_next values i value within = let e : i + 1 ≡ suc i = omega arith in rw e (drop-cons values i value within)

-- the items from one on
rest : (values : List Value) (i : ℕ) (value : Value) → i < length values → value ≡ get_or values i value
    → items_view (drop i values) ≡ item (view value) (items_view (drop (i + 1) values))
rest values i value within is =
    let e : drop i values ≡ get_or values i value ∷ drop (i + 1) values = drop_next values i value within in
    ap items_view e ∙ ap (λ v. item (view v) (items_view (drop (i + 1) values))) (sym is)

-- one more that is read
pub each-more : {A : Type 0} (read : List A → Data → Reading A) (done : List A) (values : List Value) (i : ℕ) (value : Value) (next : A)
    → i < length values → value ≡ get_or values i value → read done (view value) ≡ Ok next
    → each read done (items_view (drop i values)) ≡ each read (done ++ next ∷ []) (items_view (drop (i + 1) values))
unfolding each
each-more read done values i value next within is reads =
    ap (each read done) (rest values i value within is)
    ∙ ap (λ r. and_then r (λ x. each read (done ++ x ∷ []) (items_view (drop (i + 1) values)))) reads

-- one that is refused
pub each-refused : {A : Type 0} (read : List A → Data → Reading A) (done : List A) (values : List Value) (i : ℕ) (value : Value) (refusal : List ℕ)
    → i < length values → value ≡ get_or values i value → read done (view value) ≡ Err refusal
    → each read done (items_view (drop i values)) ≡ Err refusal
unfolding each
each-refused read done values i value refusal within is reads =
    ap (each read done) (rest values i value within is)
    ∙ ap (λ r. and_then r (λ x. each read (done ++ x ∷ []) (items_view (drop (i + 1) values)))) reads

-- all are read
pub each-end : {A : Type 0} (read : List A → Data → Reading A) (done : List A) (values : List Value) (i : ℕ) → length values ≤ i
    → each read done (items_view (drop i values)) ≡ Ok done
unfolding each
each-end read done values i past = ap (λ vs. each read done (items_view vs)) (drop_all i values past)
