-- A text with notes, from a note on.
use Rattle.std.proofs.Common.{◌≡◌, ◌∙◌, ℕ, ◌+◌, ◌<◌, ◌≤◌, List, ◌∷◌, ◌++◌, drop, get_or, length, ap, sym, drop-cons, append_assoc, arith}
use Rattle.std.specs.List.{AllByRecursion}
use Rattle.std.proofs.Math.ListN.{drop_of_length-le}
use Rattle.framehop_explain.specs.Annotated.{annotated, first_line, after_first_line}

-- the next line and its note
pub annotated-next : (out text note : List ℕ) (notes : List (List ℕ)) (i : ℕ) → i < length notes → note ≡ get_or notes i note
    → ((out ++ first_line text) ++ note) ++ annotated (after_first_line text) (drop (i + 1) notes)
    ≡ out ++ annotated text (drop i notes)
unfolding annotated
annotated-next out text note notes i within is =
    let rest = annotated (after_first_line text) (drop (i + 1) notes) in
    let next : drop i notes ≡ note ∷ drop (i + 1) notes = grind (arith, drop-cons) in
    append_assoc (out ++ first_line text) note rest
    ∙ append_assoc out (first_line text) (note ++ rest)
    ∙ ap (λ left. out ++ annotated text left) (sym next)

-- what is left after the last note
pub annotated-end : (out text : List ℕ) (notes : List (List ℕ)) (i : ℕ) → length notes ≤ i
    → out ++ text ≡ out ++ annotated text (drop i notes)
unfolding annotated
annotated-end out text notes i past = ap (λ left. out ++ annotated text left) (sym (drop_of_length-le notes past))

-- what holds of each note, from a note on
pub all-next : (P : List ℕ → Type 0) (note : List ℕ) (notes : List (List ℕ)) (i : ℕ) → i < length notes → note ≡ get_or notes i note
    → P note → AllByRecursion P (drop (i + 1) notes) → AllByRecursion P (drop i notes)
all-next P note notes i within is this others =
    let next : drop i notes ≡ note ∷ drop (i + 1) notes = grind (arith, drop-cons) in
    rw next (this, others)

pub all-end : (P : List ℕ → Type 0) (notes : List (List ℕ)) (i : ℕ) → length notes ≤ i → AllByRecursion P (drop i notes)
all-end P notes i past = rw (drop_of_length-le notes past) tt
