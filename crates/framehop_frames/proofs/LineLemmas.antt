-- The labels of frames, by what the frames are and by where they are; the frames before the first that fails a test.
use Rattle.std.proofs.Common.{◌≡◌, ◌+◌, ◌<◌, ◌∷◌, List, [], ℕ, Bool, false, map, take, drop, length, get_or, reverse, refl, ap, sym, ◌∙◌, arith}
use Rattle.std.specs.List.{flat_map, prefix_len, take_while}
use Rattle.std.proofs.lemmas.List.{at_drop_more, take-map}
use mathlib.Core.List.{reverse_aux}
use Rattle.std.proofs.lemmas.List.Folds.{flat_map-map}
use Rattle.framehop_frames.specs.Line.{frames_text}

reverse_aux-map : {A B : Type 0} (f : A → B) (xs ys : List A) → reverse_aux (map f xs) (map f ys) ≡ map f (reverse_aux xs ys)
reverse_aux-map f [] ys = refl
reverse_aux-map f (x ∷ xs) ys = reverse_aux-map f xs (x ∷ ys)

pub frames_text-map : {A B : Type 0} (label : B → List ℕ) (f : A → B) (frames : List A)
    → frames_text label (map f frames) ≡ frames_text (λ frame. label (f frame)) frames
frames_text-map label f frames =
    ap (λ outermost. flat_map (λ frame. 59 ∷ label frame) outermost) (reverse_aux-map f frames [])
    ∙ flat_map-map (λ frame. 59 ∷ label frame) f (reverse frames)

-- the items before the first that fails
pub cut-at : {A B : Type 0} (p : B → Bool) (f : A → B) (items : List A) (i : ℕ) (d : A) → i < length items
    → prefix_len p (map f items) ≡ i + prefix_len p (map f (drop i items)) → p (f (get_or items i d)) ≡ false
    → map f (take i items) ≡ take_while p (map f items)
cut-at p f items i d within so_far fails =
    let none : prefix_len p (map f (drop i items)) ≡ 0 = at_drop_more (λ rest. prefix_len p (map f rest)) items i d within ∙ (rw fails refl) in
    let size : prefix_len p (map f items) ≡ i = omega (arith, so_far, none) in
    sym (ap (λ n. take n (map f items)) size ∙ take-map f i items)
