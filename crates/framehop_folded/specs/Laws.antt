-- Lemmas that other crates ask for: of maps whose keys are bytes.
use Rattle.std.proofs.Common.{◌≡◌, ◌≢◌, ℕ, List, [], ◌∷◌, Bool, false, cond, refl, ap, sym, ◌∙◌, Some}
use Rattle.std.specs.Global.{Global}
use Rattle.std.specs.declared.vec.Vec.{Vec}
use Rattle.std.specs.BTreeMap.{insert_entry, is_at}
use Rattle.std.specs.Map.{lookup}
use Rattle.std.specs.Cmp.Lexicographic.{slice_cmp}
use Rattle.std.specs.Ordering.{nat_cmp, is_eq, match_ordering}
use Rattle.std.specs.declared.cmp.Ordering.{Ordering}
use Rattle.std.specs.declared.cmp.Ordering.TheVariants.{Less, Equal, Greater}
use Rattle.std.proofs.lemmas.Map.Lookups.{exact_bytes}

abbrev pub by_items : Vec ℕ Global → Vec ℕ Global → Ordering
by_items x y = slice_cmp nat_cmp x.items y.items

-- a test for a stack
abbrev pub is_line : List ℕ → Vec ℕ Global → Bool
is_line line = is_at (λ key. slice_cmp nat_cmp line key.items)

apart_at : (xs ys : List ℕ) (o : Ordering) → slice_cmp nat_cmp xs ys ≡ o → xs ≢ ys → is_eq o ≡ false
apart_at xs ys Less e ne = refl
apart_at xs ys Equal e ne = absurd (ne (exact_bytes xs ys e))
apart_at xs ys Greater e ne = refl

-- a test for a line fails at another
pub apart : (line : List ℕ) (key : Vec ℕ Global) → line ≢ key.items → is_line line key ≡ false
apart line key ne = apart_at line key.items (slice_cmp nat_cmp line key.items) refl ne

module _ {V : Type 0} (other : List ℕ) (k : Vec ℕ Global) (v : V) (ne : other ≢ k.items) where
  after_head : (e : Vec ℕ Global × V) (es : List (Vec ℕ Global × V)) (o : Ordering) → by_items k e.0 ≡ o
      → lookup (is_line other) (insert_entry by_items es k v) ≡ lookup (is_line other) es
      → lookup (is_line other) (match_ordering o ((k, v) ∷ e ∷ es) ((e.0, v) ∷ es) (e ∷ insert_entry by_items es k v))
      ≡ lookup (is_line other) (e ∷ es)
  after_head e es Less eq rest = rw (apart other k ne) refl
  after_head e es Equal eq rest =
      let same : k.items ≡ e.0.items = exact_bytes k.items e.0.items eq in
      let off : is_line other e.0 ≡ false = apart other e.0 (λ h. ne (h ∙ sym same)) in
      rw off refl
  after_head e es Greater eq rest = ap (λ found. cond (is_line other e.0) (Some e.1) found) rest

  pub lookup-insert_other : (es : List (Vec ℕ Global × V))
      → lookup (is_line other) (insert_entry by_items es k v) ≡ lookup (is_line other) es
  lookup-insert_other [] = rw (apart other k ne) refl
  lookup-insert_other (e ∷ es) = after_head e es (by_items k e.0) refl (lookup-insert_other es)
