-- JSON values that are made one after another.
use Rattle.std.proofs.Common.{◌≡◌, ℕ, ◌+◌, ◌<◌, List, [], ◌∷◌, ◌++◌, map, take, length, get_or, ap, sym, ◌∙◌, arith}
use Rattle.std.proofs.lemmas.List.{take_more, map-append, length-map, length-take-le, map-id}
use Rattle.serde_json.specs.Data.{Data}
use Rattle.framehop_frames.specs.JsonValues.{values_from}

module _ {A : Type 0} (value : ℕ → A → Data) where
  values-append : (n : ℕ) (items : List A) (one : A) → values_from value n (items ++ one ∷ [])
      ≡ values_from value n items ++ value (n + length items) one ∷ []
  values-append n [] one = ap (λ m. value m one ∷ []) (omega arith)
  values-append n (first ∷ others) one =
      ap (λ rest. value n first ∷ rest) (values-append (n + 1) others one
      ∙ ap (λ m. values_from value (n + 1) others ++ value m one ∷ []) (omega arith))

  -- one more value
  pub values-next : {V B : Type 0} (view : V → Data) (shown : B → A) (items : List B) (i : ℕ) (d : B) → i < length items
      → (old : List V) (new : V) → map view old ≡ values_from value 0 (map shown (take i items))
      → view new ≡ value i (shown (get_or items i d))
      → map view (old ++ new ∷ []) ≡ values_from value 0 (map shown (take (i + 1) items))
  values-next view shown items i d within old new so_far is =
      let size : length (map shown (take i items)) ≡ i = length-map (take i items) shown ∙ length-take-le i items (omega (arith, within)) in
      let count : i ≡ 0 + length (map shown (take i items)) = omega (arith, size) in
      map-append view old (new ∷ []) ∙ ap (λ list. list ++ view new ∷ []) so_far
      ∙ ap (λ one. values_from value 0 (map shown (take i items)) ++ one ∷ []) (is ∙ ap (λ m. value m (shown (get_or items i d))) count)
      ∙ sym (values-append 0 (map shown (take i items)) (shown (get_or items i d)))
      ∙ ap (values_from value 0) (sym (map-append shown (take i items) (get_or items i d ∷ [])) ∙ ap (map shown) (sym (take_more items i d within)))

  -- the same of items as they are
  pub values-more : {V : Type 0} (view : V → Data) (items : List A) (i : ℕ) (d : A) → i < length items
      → (old : List V) (new : V) → map view old ≡ values_from value 0 (take i items) → view new ≡ value i (get_or items i d)
      → map view (old ++ new ∷ []) ≡ values_from value 0 (take (i + 1) items)
  values-more view items i d within old new so_far is =
      values-next view (λ item. item) items i d within old new (so_far ∙ ap (values_from value 0) (sym (map-id (take i items)))) is
      ∙ ap (values_from value 0) (map-id (take (i + 1) items))
