-- Lists of paths and places to which the last one is added.
use Rattle.std.proofs.Common.{◌≡◌, ◌≤◌, ℕ, List, [], ◌∷◌, ◌++◌, map, length, drop, ap, sym, ◌∙◌}
use Rattle.std.proofs.lemmas.List.{drop_all, append-nil, append_assoc, map-append}

-- all items of a list were gone over
pub all-mapped : {X Y Z : Type 0} (f : Y → Z) (view : X → Y) (front all : List Z) (items : List X) (index : ℕ) → length items ≤ index
    → front ++ map f (map view (drop index items)) ≡ all → front ≡ all
all-mapped f view front all items index gone is =
    sym (append-nil front) ∙ ap (λ rest. front ++ map f (map view rest)) (sym (drop_all index items gone)) ∙ is

-- one more, seen so, after those that a list gives
pub last-given : {X Y Z : Type 0} (view : Z → Y) (f : X → Y) (front : List Y) (items : List Z) (given : List X) (item : Z) (last : X)
    → map view items ≡ front ++ map f given → view item ≡ f last
    → map view (items ++ item ∷ []) ≡ front ++ map f (given ++ last ∷ [])
last-given view f front items given item last done is =
    map-append view items (item ∷ [])
    ∙ ap (λ begun. begun ++ view item ∷ []) done
    ∙ ap (λ one. (front ++ map f given) ++ one ∷ []) is
    ∙ append_assoc front (map f given) (f last ∷ [])
    ∙ ap (λ rest. front ++ rest) (sym (map-append f given (last ∷ [])))

-- the same where the items are seen as they are
pub last-place : {X Y : Type 0} (f : X → Y) (front items : List Y) (given : List X) (item : Y) (last : X)
    → items ≡ front ++ map f given → item ≡ f last → items ++ item ∷ [] ≡ front ++ map f (given ++ last ∷ [])
last-place f front items given item last done is =
    ap (λ begun. begun ++ item ∷ []) done
    ∙ ap (λ one. (front ++ map f given) ++ one ∷ []) is
    ∙ append_assoc front (map f given) (f last ∷ [])
    ∙ ap (λ rest. front ++ rest) (sym (map-append f given (last ∷ [])))
