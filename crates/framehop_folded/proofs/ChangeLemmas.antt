-- Two runs beside one another.
use Rattle.std.proofs.Common.{◌≡◌, ◌<◌, ◌++◌, ◌∷◌, ◌+◌, [], ℕ, List, arith, ap, sym, ◌∙◌, refl, drop, take, get_or, length, map, set, suc, zero}
use Rattle.std.specs.Prelude.{max}
use Rattle.std.specs.List.{fold}
use Rattle.std.proofs.lemmas.List.{get_or-drop, map-append, take_more, take_more_set, drop-set-lt}
use Rattle.std.proofs.lemmas.List.Sums.{fold_more}
use Rattle.std.proofs.Math.Seq.{drop-cons}
use Rattle.framehop_folded.specs.declared.flame_graph.boxes.FrameBox.{FrameBox}
use Rattle.framehop_folded.specs.declared.flame_graph.changes.ChangedBox.{ChangedBox}
use Rattle.framehop_folded.specs.declared.flame_graph.stacks.Stack.{Stack}
use Rattle.framehop_folded.specs.FlameGraph.Boxes.{Box, boxed, box_of, boxes_of, root_of}
use Rattle.framehop_folded.specs.FlameGraph.Changes.{Change, viewed_change, change_of, changes_of, joined, deepest_of}
use Rattle.framehop_folded.specs.FlameGraph.Stacks.{Stacked, viewed, viewed_before, total_of}
use Rattle.framehop_folded.specs.FlameGraph.Sweep.{Rises}
use Rattle.framehop_folded.proofs.OrderLemmas.{Frames}
use Rattle.framehop_folded.proofs.SweepLemmas.{prefixes_at, prefixes_along}
use Rattle.framehop_folded.proofs.PictureLemmas.{no_box}

-- ---- stacks that take the count before

abbrev pub taken : Stack → Stack
taken stack = record { frames = stack.frames; count = stack.before; before = stack.before }

module _ (xs ys : List Stack) (i : ℕ) (d : Stack) (below : i < length xs) (within : i < length ys)
    (so : map viewed (take i xs) ≡ map viewed_before (take i ys)) (rest : drop i xs ≡ drop i ys) where
  here : get_or xs i d ≡ get_or ys i d
  here =
      let at : i ≡ i + 0 = omega arith in
      ap (λ n. get_or xs n d) at ∙ sym (get_or-drop i xs 0 d) ∙ ap (λ zs. get_or zs 0 d) rest ∙ get_or-drop i ys 0 d ∙ ap (λ n. get_or ys n d) (sym at)

  pub taken-more : map viewed (take (i + 1) (set xs i (taken (get_or xs i d)))) ≡ map viewed_before (take (i + 1) ys)
  taken-more =
      ap (map viewed) (take_more_set xs i (taken (get_or xs i d)) below)
      ∙ map-append viewed (take i xs) (taken (get_or xs i d) ∷ [])
      ∙ ap (λ all. all ++ viewed_before (get_or xs i d) ∷ []) so
      ∙ ap (λ stack. map viewed_before (take i ys) ++ viewed_before stack ∷ []) here
      ∙ sym (map-append viewed_before (take i ys) (get_or ys i d ∷ []))
      ∙ sym (ap (map viewed_before) (take_more ys i d within))

  pub rest-more : drop (i + 1) (set xs i (taken (get_or xs i d))) ≡ drop (i + 1) ys
  rest-more =
      let more : i + 1 ≡ suc i = omega arith in
      drop-set-lt (i + 1) xs i (taken (get_or xs i d)) (omega arith)
      ∙ ap (λ n. drop n xs) more
      ∙ ap (drop 1) (sym (drop-cons xs i d below)) ∙ ap (drop 1) rest ∙ ap (drop 1) (drop-cons ys i d within)
      ∙ ap (λ n. drop n ys) (sym more)

-- ---- the boxes of both runs

pub prefixes-before : (before : Frames) (stacks : List Stack) → prefixes_along before (map viewed_before stacks) ≡ prefixes_along before (map viewed stacks)
prefixes-before before [] = refl
prefixes-before before (stack ∷ later) = ap (λ more. prefixes_at before (viewed stack).frames ++ more) (prefixes-before (viewed stack).frames later)

pub rises-before : (before : Frames) (stacks : List Stack) → Rises before (map viewed stacks) → Rises before (map viewed_before stacks)
rises-before before [] rises = tt
rises-before before (stack ∷ later) rises = (rises.0, rises-before (viewed stack).frames later rises.1)

abbrev joined_boxes : List Box → List Box → List Change
joined_boxes [] befores = []
joined_boxes (box ∷ boxes) [] = []
joined_boxes (box ∷ boxes) (before ∷ befores) = record { box = box; before = before.count } ∷ joined_boxes boxes befores

viewed-joined : (frames befores : List FrameBox) → map viewed_change (joined frames befores) ≡ joined_boxes (map boxed frames) (map boxed befores)
viewed-joined [] befores = refl
viewed-joined (frame ∷ frames) [] = refl
viewed-joined (frame ∷ frames) (before ∷ befores) =
    ap (λ more. viewed_change (record { frame = frame; before = before.count }) ∷ more) (viewed-joined frames befores)

joined-map : (stacks before : List Stacked) (prefixes : List Frames)
    → joined_boxes (map (box_of stacks) prefixes) (map (box_of before) prefixes) ≡ map (change_of stacks before) prefixes
joined-map stacks before [] = refl
joined-map stacks before (prefix ∷ prefixes) = ap (λ more. change_of stacks before prefix ∷ more) (joined-map stacks before prefixes)

-- boxes of two lists of stacks by the same prefixes
pub joined-are : (stacks before : List Stacked) (prefixes : List Frames) (frames befores : List FrameBox)
    → map boxed frames ≡ boxes_of stacks prefixes → map boxed befores ≡ boxes_of before prefixes
    → map viewed_change (joined frames befores) ≡ changes_of stacks before prefixes
joined-are stacks before prefixes frames befores is is_before =
    viewed-joined frames befores
    ∙ ap (λ boxes. joined_boxes boxes (map boxed befores)) is
    ∙ ap (joined_boxes (boxes_of stacks prefixes)) is_before
    ∙ ap (λ more. record { box = root_of stacks; before = total_of before } ∷ more) (joined-map stacks before prefixes)

-- ---- one box after another

pub joined-length : (frames befores : List FrameBox) → length befores ≡ length frames → length (joined frames befores) ≡ length frames
joined-length [] befores e = refl
joined-length (frame ∷ frames) [] e = absurd (omega (arith, e))
joined-length (frame ∷ frames) (before ∷ befores) e = ap suc (joined-length frames befores (omega (arith, e)))

pub joined-at : (frames befores : List FrameBox) (i : ℕ) (d : FrameBox) (c : ChangedBox) → i < length frames → i < length befores
    → get_or (joined frames befores) i c ≡ record { frame = get_or frames i d; before = (get_or befores i d).count }
joined-at [] befores i d c below within = absurd (omega arith)
joined-at (frame ∷ frames) [] i d c below within = absurd (omega arith)
joined-at (frame ∷ frames) (before ∷ befores) zero d c below within = refl
joined-at (frame ∷ frames) (before ∷ befores) (suc i) d c below within = joined-at frames befores i d c (omega arith) (omega arith)

abbrev pub no_change : ChangedBox
no_change = record { frame = no_box; before = 0 }

pub joined-more : (frames befores : List FrameBox) (i : ℕ) → length befores ≡ length frames → i < length frames
    → take (i + 1) (joined frames befores)
    ≡ take i (joined frames befores) ++ record { frame = get_or frames i no_box; before = (get_or befores i no_box).count } ∷ []
joined-more frames befores i e below =
    let size = joined-length frames befores e in
    take_more (joined frames befores) i no_change (omega (arith, size))
    ∙ ap (λ change. take i (joined frames befores) ++ change ∷ []) (joined-at frames befores i no_box no_change below (omega (arith, e)))

-- ---- how deep boxes are

abbrev deeper : ℕ → ChangedBox → ℕ
deeper depth change = max depth change.frame.depth

deepest-map : (depth : ℕ) (changes : List ChangedBox)
    → fold (λ depth change. max depth change.box.depth) depth (map viewed_change changes) ≡ fold deeper depth changes
deepest-map depth [] = refl
deepest-map depth (change ∷ changes) = deepest-map (max depth change.frame.depth) changes

pub deepest-more : (changes : List ChangedBox) (i : ℕ) (d : ChangedBox) → i < length changes
    → deepest_of (map viewed_change (take (i + 1) changes)) ≡ max (deepest_of (map viewed_change (take i changes))) (get_or changes i d).frame.depth
deepest-more changes i d below =
    deepest-map 0 (take (i + 1) changes) ∙ fold_more deeper 0 changes i d below
    ∙ ap (λ depth. max depth (get_or changes i d).frame.depth) (sym (deepest-map 0 (take i changes)))
