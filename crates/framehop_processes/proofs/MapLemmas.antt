-- A map whose keys are bytes, after an insertion.
use Rattle.std.proofs.Common.{◌≡◌, ◌≢◌, ℕ, List, [], ◌∷◌, Bool, true, false, cond, is_some, refl, ap, sym, ◌∙◌, Option, Some, None, Bor}
use Rattle.std.specs.Prelude.{option_copied}
use Rattle.std.specs.Global.{Global}
use Rattle.std.specs.declared.vec.Vec.{Vec}
use Rattle.std.specs.BTreeMap.{insert_entry, is_at}
use Rattle.std.specs.Map.{lookup}
use Rattle.std.specs.Cmp.Lexicographic.{slice_cmp}
use Rattle.std.specs.Ordering.{nat_cmp, is_eq, match_ordering}
use Rattle.std.specs.declared.cmp.Ordering.{Ordering}
use Rattle.std.specs.declared.cmp.Ordering.TheVariants.{Less, Equal, Greater}
use Rattle.std.proofs.lemmas.Map.Lookups.{exact_bytes}

abbrev by_items : Vec ℕ Global → Vec ℕ Global → Ordering
by_items x y = slice_cmp nat_cmp x.items y.items

apart-by : (xs ys : List ℕ) (o : Ordering) → slice_cmp nat_cmp xs ys ≡ o → xs ≢ ys → is_eq o ≡ false
apart-by xs ys Less e ne = refl
apart-by xs ys Equal e ne = absurd (ne (exact_bytes xs ys e))
apart-by xs ys Greater e ne = refl

module _ (other : List ℕ) (k : Vec ℕ Global) (v : ℕ) (ne : other ≢ k.items) where
  abbrev value_in : List (Vec ℕ Global × ℕ) → Option ℕ
  value_in entries = lookup (is_at (λ key. slice_cmp nat_cmp other key.items)) entries

  after-head : (e : Vec ℕ Global × ℕ) (es : List (Vec ℕ Global × ℕ)) (o : Ordering) → by_items k e.0 ≡ o
      → value_in (insert_entry by_items es k v) ≡ value_in es
      → value_in (match_ordering o ((k, v) ∷ e ∷ es) ((e.0, v) ∷ es) (e ∷ insert_entry by_items es k v)) ≡ value_in (e ∷ es)
  after-head e es Less eq rest = rw (apart-by other k.items (slice_cmp nat_cmp other k.items) refl ne) refl
  after-head e es Equal eq rest =
      let same : k.items ≡ e.0.items = exact_bytes k.items e.0.items eq in
      rw (apart-by other e.0.items (slice_cmp nat_cmp other e.0.items) refl (λ h. ne (h ∙ sym same))) refl
  after-head e es Greater eq rest =
      ap (λ found. cond (is_at (λ key. slice_cmp nat_cmp other key.items) e.0) (Some e.1) found) rest

  -- another key has the value that it had
  pub lookup-insert_other : (es : List (Vec ℕ Global × ℕ)) → value_in (insert_entry by_items es k v) ≡ value_in es
  lookup-insert_other [] = rw (apart-by other k.items (slice_cmp nat_cmp other k.items) refl ne) refl
  lookup-insert_other (e ∷ es) = after-head e es (by_items k e.0) refl (lookup-insert_other es)

-- nothing was found at a key
pub none-found : {A : Type 0} (found : Option (Bor A)) (value : Option A) (b : Bool) → option_copied found ≡ value → b ≡ is_some found
    → b ≡ false → value ≡ None
none-found None value b is tells not = sym is
none-found (Some x) value b is tells not =
    let both : true ≡ false = sym tells ∙ not in
    cc
