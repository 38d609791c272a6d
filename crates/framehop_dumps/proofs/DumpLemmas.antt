-- What is made of the items of a list one after another.
use Rattle.std.proofs.Common.{◌≡◌, ℕ, ◌+◌, ◌<◌, List, [], ◌++◌, take, length, get_or, subst, ap, sym, ◌∙◌}
use Rattle.std.specs.List.{flat_map}
use Rattle.std.proofs.lemmas.List.{flat_map_more, take_more}

-- what the next one gives is appended to what those before it give
pub text-next : {X Y : Type 0} (text : X → List Y) (items all : List X) → items ≡ all → (i : ℕ) (d : X) → i < length items
    → (old new : List Y) → old ≡ flat_map text (take i all) → new ≡ old ++ text (get_or items i d) → new ≡ flat_map text (take (i + 1) all)
text-next text items all same i d within old new so_far is =
    is ∙ ap (λ before. before ++ text (get_or items i d)) so_far
    ∙ subst (λ list. flat_map text (take i list) ++ text (get_or items i d) ≡ flat_map text (take (i + 1) list)) same
    (flat_map_more text [] (take i items) (get_or items i d) ∙ ap (flat_map text) (sym (take_more items i d within)))
