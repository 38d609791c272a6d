-- The names of a file in a map, after another file's were changed.
use Rattle.std.proofs.Common.{◌≡◌, ◌≢◌, ℕ, List, [], ◌∷◌, Bool, true, false, refl, ap, sym, ◌∙◌, map, nat_eq, nat_lt, length, ◌||◌, ◌++◌}
use Rattle.std.specs.Global.{Global}
use Rattle.std.specs.List.{list_any}
use Rattle.std.specs.declared.vec.Vec.{Vec}
use Rattle.std.specs.BTreeMap.{is_at}
use Rattle.std.specs.Map.{KeepsOthers, IsKeyTest, AreApart, lookup}
use Rattle.std.specs.Cmp.Lexicographic.{pointwise, slice_cmp}
use Rattle.std.specs.Ordering.{nat_cmp, is_eq, eq_by_cmp}
use Rattle.std.specs.declared.cmp.Ordering.{Ordering}
use Rattle.std.specs.declared.cmp.Ordering.TheVariants.{Less, Equal, Greater}
use Rattle.std.proofs.lemmas.Map.Lookups.{exact_bytes}
use Rattle.std.proofs.lemmas.List.{length-map, map-append}
use Rattle.framehop_disk.specs.KnownNames.{has_name, is_allowed, noted, bytes_of}

pub any_items : (names : List (Vec ℕ Global)) (name : List ℕ)
    → list_any (λ known. pointwise nat_eq known.items name) names ≡ has_name (map (λ known. known.items) names) name
any_items [] name = refl
any_items (known ∷ names) name = ap (λ rest. pointwise nat_eq known.items name || rest) (any_items names name)

abbrev items_of : List (Vec ℕ Global) → List (List ℕ)
items_of names = map (λ known. known.items) names

room-of : (names : List (Vec ℕ Global)) (b : Bool) → nat_lt (length names) 8 ≡ b → nat_lt (length (items_of names)) 8 ≡ b
room-of names b room = ap (λ n. nat_lt n 8) (length-map names (λ known. known.items)) ∙ room

module _ (names : List (Vec ℕ Global)) (name : List ℕ) where
  abbrev has : Bool
  has = list_any (λ known. pointwise nat_eq known.items name) names

  -- a name that the file was read by
  pub known-allowed : has ≡ true → true ≡ is_allowed (items_of names) name
  known-allowed is =
      let known : has_name (items_of names) name ≡ true = sym (any_items names name) ∙ is in
      rw known refl

  pub known-noted : has ≡ true → items_of names ≡ noted (items_of names) name
  known-noted is =
      let known : has_name (items_of names) name ≡ true = sym (any_items names name) ∙ is in
      rw known refl

  -- another one
  pub other-allowed : (b : Bool) → has ≡ false → nat_lt (length names) 8 ≡ b → b ≡ is_allowed (items_of names) name
  other-allowed b is room =
      let known : has_name (items_of names) name ≡ false = sym (any_items names name) ∙ is in
      rw known (sym (room-of names b room))

  pub full-noted : has ≡ false → nat_lt (length names) 8 ≡ false → items_of names ≡ noted (items_of names) name
  full-noted is room =
      let known : has_name (items_of names) name ≡ false = sym (any_items names name) ∙ is in
      rw known (rw (room-of names false room) refl)

  pub new-noted : (new : List (Vec ℕ Global)) (added : Vec ℕ Global) → added.items ≡ name → new ≡ names ++ added ∷ []
      → has ≡ false → nat_lt (length names) 8 ≡ true → items_of new ≡ noted (items_of names) name
  new-noted new added named pushed is room =
      let known : has_name (items_of names) name ≡ false = sym (any_items names name) ∙ is in
      let last : items_of new ≡ items_of names ++ name ∷ [] =
      ap items_of pushed ∙ map-append (λ known. known.items) names (added ∷ []) ∙ ap (λ one. items_of names ++ one ∷ []) named in
      rw known (rw (room-of names true room) last)

abbrev by_items : Vec ℕ Global → Vec ℕ Global → Ordering
by_items x y = slice_cmp nat_cmp x.items y.items

abbrev query : List ℕ → Vec ℕ Global → Bool
query file = is_at (λ key. slice_cmp nat_cmp file key.items)

absurd-of : {A : Type 0} → false ≡ true → A
absurd-of is = cc

same-by : (xs ys : List ℕ) (o : Ordering) → slice_cmp nat_cmp xs ys ≡ o → is_eq o ≡ true → xs ≡ ys
same-by xs ys Less e is = absurd-of is
same-by xs ys Equal e is = exact_bytes xs ys e
same-by xs ys Greater e is = absurd-of is

apart-by : (xs ys : List ℕ) (o : Ordering) → slice_cmp nat_cmp xs ys ≡ o → xs ≢ ys → is_eq o ≡ false
apart-by xs ys Less e ne = refl
apart-by xs ys Equal e ne = absurd (ne (exact_bytes xs ys e))
apart-by xs ys Greater e ne = refl

query-tests : (file : List ℕ) → IsKeyTest (eq_by_cmp by_items) (query file)
query-tests file x y is = ap (λ bytes. is_eq (slice_cmp nat_cmp bytes y.items)) (same-by file x.items (slice_cmp nat_cmp file x.items) refl is)

queries-apart : (file other : List ℕ) → other ≢ file → AreApart (query file) (query other)
queries-apart file other ne k is =
    let same : file ≡ k.items = same-by file k.items (slice_cmp nat_cmp file k.items) refl is in
    apart-by other k.items (slice_cmp nat_cmp other k.items) refl (λ h. ne (h ∙ sym same))

-- a query for another file finds what it found
pub keeps-other : (file other : List ℕ) → other ≢ file → (old new : List (Vec ℕ Global × Vec (Vec ℕ Global) Global))
    → KeepsOthers (eq_by_cmp by_items) (query file) old new
    → bytes_of (lookup (query other) new) ≡ bytes_of (lookup (query other) old)
unfolding KeepsOthers
keeps-other file other ne old new keeps = ap bytes_of (keeps (query other) (query-tests other) (queries-apart file other ne))
