-- The labels of frames, by where they are.
use Rattle.std.proofs.Common.{◌≡◌, ℕ, ◌-◌, ◌++◌, ◌∷◌, List, [], length, map, take, reverse, refl, ap, ◌∙◌, arith}
use Rattle.std.specs.List.{flat_map}
use mathlib.Core.List.{reverse_aux}
use Rattle.std.proofs.Math.Seq.{take-append_seam}
use Rattle.std.proofs.lemmas.List.{length-append}
use Rattle.std.proofs.lemmas.List.Folds.{flat_map-map}
use Rattle.framehop_frames.specs.Line.{frames_text}

reverse_aux-map : {A B : Type 0} (f : A → B) (xs ys : List A) → reverse_aux (map f xs) (map f ys) ≡ map f (reverse_aux xs ys)
reverse_aux-map f [] ys = refl
reverse_aux-map f (x ∷ xs) ys = reverse_aux-map f xs (x ∷ ys)

pub labels-map : {A B : Type 0} (label : B → List ℕ) (f : A → B) (frames : List A)
    → frames_text label (map f frames) ≡ frames_text (λ frame. label (f frame)) frames
labels-map label f frames =
    ap (λ outermost. flat_map (λ frame. 59 ∷ label frame) outermost) (reverse_aux-map f frames [])
    ∙ flat_map-map (λ frame. 59 ∷ label frame) f (reverse frames)

-- a text without its end of eight bytes
pub without-end : (text end : List ℕ) → length end ≡ 8 → take (length (text ++ end) - 8) (text ++ end) ≡ text
without-end text end eight =
    let size : length (text ++ end) - 8 ≡ length text = omega (arith, length-append text end, eight) in
    ap (λ n. take n (text ++ end)) size ∙ take-append_seam text end
