-- How deep boxes are.
use Rattle.std.proofs.Common.{◌≡◌, ℕ, List, [], ◌∷◌, ◌+◌, ◌<◌, length, get_or, take, map, refl, ap, sym, ◌∙◌}
use Rattle.std.specs.Prelude.{max}
use Rattle.std.specs.List.{fold}
use Rattle.std.proofs.lemmas.List.Sums.{fold_more}
use Rattle.framehop_folded.specs.declared.flame_graph.boxes.FrameBox.{FrameBox}
use Rattle.framehop_folded.specs.FlameGraph.Boxes.{boxed}
use Rattle.framehop_folded.specs.FlameGraph.Picture.{deepest}

abbrev pub no_box : FrameBox
no_box = record { name = record { ref_ptr = (0, 0); now = [] }; depth = 0; left = 0; count = 0 }

abbrev deeper : ℕ → FrameBox → ℕ
deeper depth frame = max depth frame.depth

deepest-map : (depth : ℕ) (frames : List FrameBox) → fold (λ depth box. max depth box.depth) depth (map boxed frames) ≡ fold deeper depth frames
deepest-map depth [] = refl
deepest-map depth (frame ∷ frames) = deepest-map (max depth frame.depth) frames

pub deepest-more : (frames : List FrameBox) (i : ℕ) (d : FrameBox) → i < length frames
    → deepest (map boxed (take (i + 1) frames)) ≡ max (deepest (map boxed (take i frames))) (get_or frames i d).depth
deepest-more frames i d below =
    deepest-map 0 (take (i + 1) frames) ∙ fold_more deeper 0 frames i d below
    ∙ ap (λ depth. max depth (get_or frames i d).depth) (sym (deepest-map 0 (take i frames)))
