-- Boxes as they are found.
use Rattle.std.proofs.Common.{◌≡◌, ◌<◌, ◌≤◌, ℕ, List, [], ◌∷◌, ◌++◌, ◌+◌, ◌-◌, length, map, get_or, refl, ap, ◌∙◌, arith, Bor}
use Rattle.std.specs.List.{range_with_len}
use Rattle.std.proofs.lemmas.List.{get_or-map}
use Rattle.std.proofs.lemmas.List.FromFn.{map-range_with_len_more}
use Rattle.framehop_folded.specs.declared.flame_graph.stacks.Neighbour.{Neighbour}
use Rattle.framehop_folded.specs.FlameGraph.Boxes.{Box, boxed}
use Rattle.framehop_folded.specs.FlameGraph.Sweep.{count_along}

abbrev pub box_at : ℕ → List (List ℕ) → Neighbour → List Neighbour → ℕ → Box
box_at left frames here later depth = record { name = get_or frames depth []; depth = depth + 1; left = left; count = here.count + count_along depth later }

-- the boxes of one more frame
pub boxes-more : (left : ℕ) (frames : List (Bor (List ℕ))) (here : Neighbour) (later : List Neighbour) (depth count : ℕ) (d : Bor (List ℕ))
    → here.shared ≤ depth → depth < length frames → count ≡ count_along depth later
    → map (box_at left (map (λ frame. frame.now) frames) here later) (range_with_len here.shared (depth + 1 - here.shared))
    ≡ map (box_at left (map (λ frame. frame.now) frames) here later) (range_with_len here.shared (depth - here.shared))
    ++ boxed (record { name = get_or frames depth d; depth = depth + 1; left = left; count = here.count + count }) ∷ []
boxes-more left frames here later depth count d low high is =
    let f = box_at left (map (λ (frame : Bor (List ℕ)). frame.now) frames) here later in
    let n : depth + 1 - here.shared ≡ depth - here.shared + 1 = omega arith in
    let name = get_or-map (λ (frame : Bor (List ℕ)). frame.now) frames depth d [] high in
    let same : f depth ≡ boxed (record { name = get_or frames depth d; depth = depth + 1; left = left; count = here.count + count }) = rw (name, is) refl in
    ap (λ m. map f (range_with_len here.shared m)) n
    ∙ map-range_with_len_more f here.shared (depth - here.shared) depth (omega arith)
    ∙ ap (λ (box : Box). map f (range_with_len here.shared (depth - here.shared)) ++ box ∷ []) same
