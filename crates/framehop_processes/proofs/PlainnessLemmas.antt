-- What a filter has after one more item.
use Rattle.std.proofs.Common.{◌≡◌, ◌<◌, ◌+◌, ℕ, List, [], ◌∷◌, ◌++◌, Bool, true, false, cond, take, length, get_or, ap, sym, ◌∙◌}
use Rattle.std.specs.List.{filter}
use Rattle.std.proofs.lemmas.List.{append-nil}
use Rattle.std.proofs.lemmas.List.Elements.{filter_more}

module _ {X : Type 0} (p : X → Bool) (xs : List X) (i : ℕ) (d : X) (within : i < length xs) (old new : List X)
    (so_far : old ≡ filter p (take i xs)) where
  abbrev with : Bool → List X
  with b = filter p (take i xs) ++ cond b (get_or xs i d ∷ []) []

  -- one that passes is appended
  pub passes : p (get_or xs i d) ≡ true → new ≡ old ++ get_or xs i d ∷ [] → new ≡ filter p (take (i + 1) xs)
  passes so is =
      is ∙ ap (λ before. before ++ get_or xs i d ∷ []) so_far ∙ sym (filter_more p xs i d within ∙ ap with so)

  -- one that does not pass changes nothing
  pub fails : p (get_or xs i d) ≡ false → new ≡ old → new ≡ filter p (take (i + 1) xs)
  fails so is =
      is ∙ so_far ∙ sym (filter_more p xs i d within ∙ ap with so ∙ append-nil (filter p (take i xs)))
