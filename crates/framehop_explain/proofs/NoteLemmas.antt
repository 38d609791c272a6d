-- A note with a further line.
use Rattle.std.proofs.Common.{◌≡◌, ◌∙◌, ℕ, List, [], ◌∷◌, ◌++◌, ap, append_assoc}
use Rattle.std.specs.List.{flat_map}
use Rattle.std.proofs.lemmas.List.{flat_map_more}
use Rattle.framehop_explain.specs.Note.{printed, note_line}

pub note-more : (note text : List ℕ) (texts : List (List ℕ)) → note ≡ flat_map note_line texts
    → ((note ++ 32 ∷ 32 ∷ []) ++ printed text) ++ 10 ∷ [] ≡ flat_map note_line (texts ++ text ∷ [])
note-more note text texts is =
    append_assoc (note ++ 32 ∷ 32 ∷ []) (printed text) (10 ∷ [])
    ∙ append_assoc note (32 ∷ 32 ∷ []) (printed text ++ 10 ∷ [])
    ∙ ap (λ before. before ++ note_line text) is
    ∙ flat_map_more note_line [] texts text
