-- Stacks and their frames.
use Rattle.std.proofs.Common.{◌≡◌, ◌⊎◌, ℕ, Bool, false, cond, List, [], ◌∷◌, ◌++◌, ◌+◌, ◌-◌, ◌<◌, ◌≤◌, suc, zero, length, take, drop, get_or, map, min, refl, ap, sym, ◌∙◌, subst, arith, ⊎_elim, inl, inr, Bor, add-one, Ordering}
use Rattle.std.specs.Prelude.{sum_by}
use Rattle.std.specs.List.{common_prefix_len}
use Rattle.std.specs.List.Sorted.{IsSortedBy}
use Rattle.std.specs.Cmp.Lexicographic.{slice_cmp}
use Rattle.std.specs.Ordering.{nat_cmp, is_lt, is_gt, ordering_then, ordering_reverse}
use Rattle.std.specs.declared.cmp.Ordering.TheVariants.{Less, Equal, Greater}
use Rattle.std.specs.Str.{bytes_eq}
use Rattle.std.proofs.lemmas.Bool.{cases_lt}
use Rattle.std.proofs.lemmas.List.{drop_all, get_or-map, get_or-drop, length-map}
use Rattle.std.proofs.lemmas.List.Sums.{sum_by-cons, sum_by_more, sum_by-drop_more, sum_by-take-drop, sum_by-take-le}
use Rattle.std.proofs.Math.Seq.{drop-cons}
use Rattle.framehop_folded.specs.declared.flame_graph.stacks.Stack.{Stack}
use Rattle.framehop_folded.specs.declared.flame_graph.stacks.Neighbour.{Neighbour}
use Rattle.framehop_folded.specs.FlameGraph.Stacks.{Stacked, viewed, total_of, compare_stacks}
use Rattle.framehop_folded.proofs.OrderLemmas.{Frames, NotAfter, stacks_total}
use Rattle.framehop_folded.specs.FlameGraph.Sweep.{Rises, shared_frames, frames_before, neighbours_of, boxes_at, boxes_along}

common-nil : {X Y : Type 0} (e : X → Y → Bool) (xs : List X) → common_prefix_len e xs [] ≡ 0
common-nil e [] = refl
common-nil e (x ∷ xs) = refl

swapped : {A B : Type 0} → A ⊎ B → B ⊎ A
swapped h = ⊎_elim (λ a. inr a) (λ b. inl b) h

either : (m n at : ℕ) → min m n ≤ at → (m ≤ at) ⊎ (n ≤ at)
either m n at past = ⊎_elim (λ (h : m ≤ at). inl h) (λ (h : at < m). inr (omega arith)) (swapped (cases_lt at m))

-- past the end of either list nothing is in common
pub common-past : {X Y : Type 0} (e : X → Y → Bool) (xs : List X) (ys : List Y) (at : ℕ) → min (length xs) (length ys) ≤ at
    → at + common_prefix_len e (drop at xs) (drop at ys) ≡ at
common-past e xs ys at past =
    ⊎_elim (λ (first : length xs ≤ at). let none = drop_all at xs first in rw none (omega arith))
    (λ (second : length ys ≤ at). let none = drop_all at ys second in rw (none, common-nil e (drop at xs)) (omega arith))
    (either (length xs) (length ys) at past)

-- ---- views

pub common-map : (xs ys : List (Bor (List ℕ))) → common_prefix_len (λ (x y : Bor (List ℕ)). bytes_eq x.now y.now) xs ys
    ≡ shared_frames (map (λ frame. frame.now) xs) (map (λ frame. frame.now) ys)
common-map [] ys = refl
common-map (x ∷ xs) [] = refl
common-map (x ∷ xs) (y ∷ ys) = ap (λ n. cond (bytes_eq x.now y.now) (1 + n) 0) (common-map xs ys)

-- ---- the stack before another

pub frames-next : (stacks : List Stacked) (at : ℕ) (d : Stacked) → at < length stacks → frames_before stacks (at + 1) ≡ (get_or stacks at d).frames
frames-next stacks at d below = rw add-one (get_or-map (λ (stack : Stacked). stack.frames) stacks at d [] below)

pub frames-before : (stacks : List Stacked) (at : ℕ) (d : Stacked) → 0 < at → at ≤ length stacks → frames_before stacks at ≡ (get_or stacks (at - 1) d).frames
frames-before stacks at d above below =
    let same : at - 1 + 1 ≡ at = omega arith in
    ap (λ n. frames_before stacks n) (sym same) ∙ frames-next stacks (at - 1) d (omega arith)

-- ---- one turn along the stacks

pub neighbours-more : (stacks : List Stacked) (at : ℕ) (d : Stacked) → at < length stacks
    → neighbours_of (frames_before stacks at) (drop at stacks)
    ≡ record { shared = shared_frames (frames_before stacks at) (get_or stacks at d).frames; count = (get_or stacks at d).count }
    ∷ neighbours_of (frames_before stacks (at + 1)) (drop (at + 1) stacks)
neighbours-more stacks at d below =
    let here : drop at stacks ≡ get_or stacks at d ∷ drop (at + 1) stacks = rw add-one (drop-cons stacks at d below) in
    rw (here, frames-next stacks at d below) refl

pub boxes-more : (left : ℕ) (stacks : List Stacked) (at : ℕ) (d : Stacked) → at < length stacks
    → boxes_along left (frames_before stacks at) (drop at stacks)
    ≡ boxes_at left (get_or stacks at d).frames
    (record { shared = shared_frames (frames_before stacks at) (get_or stacks at d).frames; count = (get_or stacks at d).count })
    (neighbours_of (frames_before stacks (at + 1)) (drop (at + 1) stacks))
    ++ boxes_along (left + (get_or stacks at d).count) (frames_before stacks (at + 1)) (drop (at + 1) stacks)
boxes-more left stacks at d below =
    let here : drop at stacks ≡ get_or stacks at d ∷ drop (at + 1) stacks = rw add-one (drop-cons stacks at d below) in
    rw (here, frames-next stacks at d below) refl

pub neighbours-drop : (before : List (List ℕ)) (stacks : List Stacked) (at : ℕ)
    → drop at (neighbours_of before stacks) ≡ neighbours_of (get_or (before ∷ map (λ stack. stack.frames) stacks) at []) (drop at stacks)
neighbours-drop before stacks zero = refl
neighbours-drop before [] (suc at) = refl
neighbours-drop before (stack ∷ later) (suc at) = neighbours-drop stack.frames later at

pub neighbours-length : (before : List (List ℕ)) (stacks : List Stacked) → length (neighbours_of before stacks) ≡ length stacks
neighbours-length before [] = refl
neighbours-length before (stack ∷ later) = ap suc (neighbours-length stack.frames later)

pub neighbours-sum : (before : List (List ℕ)) (stacks : List Stacked) → sum_by (λ (stack : Neighbour). stack.count) (neighbours_of before stacks) ≡ total_of stacks
neighbours-sum before [] = refl
neighbours-sum before (stack ∷ later) =
    let one = sum_by-cons (λ (n : Neighbour). n.count) (record { shared = shared_frames before stack.frames; count = stack.count }) (neighbours_of stack.frames later) in
    let all = sum_by-cons (λ (s : Stacked). s.count) stack later in
    omega (arith, one, all, neighbours-sum stack.frames later)

pub counts-within : (stacks : List Stacked) (at : ℕ) (d : Stacked) → at < length stacks
    → (get_or stacks at d).count + sum_by (λ (stack : Neighbour). stack.count) (neighbours_of (frames_before stacks (at + 1)) (drop (at + 1) stacks)) ≤ total_of stacks
counts-within stacks at d below =
    let later = neighbours-sum (frames_before stacks (at + 1)) (drop (at + 1) stacks) in
    let more = sum_by-drop_more (λ (stack : Stacked). stack.count) stacks at d below in
    let both = sum_by-take-drop (λ (stack : Stacked). stack.count) stacks at in
    omega (arith, later, more, both)

-- the stack at an index, as it is seen
pub viewed-at : (stacks : List Stack) (at : ℕ) (stack : Stack) → at < length stacks → stack ≡ get_or stacks at stack
    → get_or (map viewed stacks) at (viewed stack) ≡ viewed stack
viewed-at stacks at stack below is = get_or-map viewed stacks at stack (viewed stack) below ∙ ap viewed (sym is)

module _ (stacks : List Stack) (at : ℕ) (stack : Stack) (below : at < length stacks) (is : stack ≡ get_or stacks at stack)
    (neighbours : List Neighbour) (are : neighbours ≡ neighbours_of [] (map viewed stacks)) where
  within : at < length (map viewed stacks)
  within = omega (arith, length-map stacks viewed)

  dropped : drop at neighbours
      ≡ record { shared = shared_frames (frames_before (map viewed stacks) at) (viewed stack).frames; count = stack.count }
      ∷ neighbours_of (frames_before (map viewed stacks) (at + 1)) (drop (at + 1) (map viewed stacks))
  dropped =
      ap (drop at) are ∙ neighbours-drop [] (map viewed stacks) at ∙ neighbours-more (map viewed stacks) at (viewed stack) within
      ∙ ap (λ (s : Stacked). record { shared = shared_frames (frames_before (map viewed stacks) at) s.frames; count = s.count }
      ∷ neighbours_of (frames_before (map viewed stacks) (at + 1)) (drop (at + 1) (map viewed stacks)))
      (viewed-at stacks at stack below is)

  pub here-is : (here : Neighbour) → here ≡ get_or neighbours at here
      → here ≡ record { shared = shared_frames (frames_before (map viewed stacks) at) (viewed stack).frames; count = stack.count }
  here-is here found =
      let place : get_or (drop at neighbours) 0 here ≡ get_or neighbours at here = get_or-drop at neighbours 0 here ∙ ap (λ n. get_or neighbours n here) (omega arith) in
      found ∙ sym place ∙ ap (λ rest. get_or rest 0 here) dropped

  pub later-is : drop (at + 1) neighbours ≡ neighbours_of (frames_before (map viewed stacks) (at + 1)) (drop (at + 1) (map viewed stacks))
  later-is = ap (drop (at + 1)) are ∙ neighbours-drop [] (map viewed stacks) (at + 1)

  pub counts-fit : stack.count + sum_by (λ (n : Neighbour). n.count) (drop (at + 1) neighbours) ≤ total_of (map viewed stacks)
  counts-fit =
      let all = counts-within (map viewed stacks) at (viewed stack) within in
      let one = ap (λ (s : Stacked). s.count) (viewed-at stacks at stack below is) in
      let rest = ap (sum_by (λ (n : Neighbour). n.count)) later-is in
      omega (arith, all, one, rest)

  pub left-more : total_of (take at (map viewed stacks)) + stack.count ≡ total_of (take (at + 1) (map viewed stacks))
  left-more =
      let more = sum_by_more (λ (s : Stacked). s.count) (map viewed stacks) at (viewed stack) within in
      let one = ap (λ (s : Stacked). s.count) (viewed-at stacks at stack below is) in
      omega (arith, more, one)

  pub left-within : total_of (take (at + 1) (map viewed stacks)) ≤ total_of (map viewed stacks)
  left-within = sum_by-take-le (λ (s : Stacked). s.count) (map viewed stacks) (at + 1)

  pub boxes-next : (left : ℕ) → boxes_along left (frames_before (map viewed stacks) at) (drop at (map viewed stacks))
      ≡ boxes_at left (viewed stack).frames
      (record { shared = shared_frames (frames_before (map viewed stacks) at) (viewed stack).frames; count = stack.count }) (drop (at + 1) neighbours)
      ++ boxes_along (left + stack.count) (frames_before (map viewed stacks) (at + 1)) (drop (at + 1) (map viewed stacks))
  boxes-next left =
      boxes-more left (map viewed stacks) at (viewed stack) within
      ∙ ap (λ (s : Stacked). boxes_at left s.frames (record { shared = shared_frames (frames_before (map viewed stacks) at) s.frames; count = s.count })
      (neighbours_of (frames_before (map viewed stacks) (at + 1)) (drop (at + 1) (map viewed stacks)))
      ++ boxes_along (left + s.count) (frames_before (map viewed stacks) (at + 1)) (drop (at + 1) (map viewed stacks)))
      (viewed-at stacks at stack below is)
      ∙ ap (λ later. boxes_at left (viewed stack).frames
      (record { shared = shared_frames (frames_before (map viewed stacks) at) (viewed stack).frames; count = stack.count }) later
      ++ boxes_along (left + stack.count) (frames_before (map viewed stacks) (at + 1)) (drop (at + 1) (map viewed stacks))) (sym later-is)

-- ---- stacks that were sorted

abbrev pub compare_sorted : Stack → Stack → Ordering
compare_sorted x y = slice_cmp (λ (f g : Bor (List ℕ)). slice_cmp nat_cmp f.now g.now) x.frames.items y.frames.items

compare-viewed : (xs ys : List (Bor (List ℕ))) → slice_cmp (λ (f g : Bor (List ℕ)). slice_cmp nat_cmp f.now g.now) xs ys
    ≡ compare_stacks (map (λ frame. frame.now) xs) (map (λ frame. frame.now) ys)
compare-viewed [] [] = refl
compare-viewed [] (y ∷ ys) = refl
compare-viewed (x ∷ xs) [] = refl
compare-viewed (x ∷ xs) (y ∷ ys) = ap (λ o. ordering_then (slice_cmp nat_cmp x.now y.now) o) (compare-viewed xs ys)

turned : (o : Ordering) → is_gt (ordering_reverse o) ≡ is_lt o
turned Less = refl
turned Equal = refl
turned Greater = refl

pub then_lt : (o p : Ordering) → is_lt (ordering_then o p) ≡ false → is_lt o ≡ false
then_lt Less p h = h
then_lt Equal p h = refl
then_lt Greater p h = refl

none_before : (s : Frames) → NotAfter [] s
none_before [] = refl
none_before (f ∷ s) = refl

module _ (lt : Stack → Stack → Bool) (by_frames : (x y : Stack) → lt x y ≡ false → is_lt (compare_sorted x y) ≡ false) where
  next : (x y : Stack) → lt y x ≡ false → NotAfter (viewed x).frames (viewed y).frames
  next x y h =
      ap is_gt (stacks_total.antisymm (viewed x).frames (viewed y).frames) ∙ turned (compare_stacks (viewed y).frames (viewed x).frames)
      ∙ ap is_lt (sym (compare-viewed y.frames.items x.frames.items)) ∙ by_frames y x h

  rises_from : (xs : List Stack) → ((k : ℕ) (d : Stack) → suc k < length xs → lt (get_or xs (suc k) d) (get_or xs k d) ≡ false)
      → (before : Frames) → ((d : Stack) → 0 < length xs → NotAfter before (viewed (get_or xs 0 d)).frames) → Rises before (map viewed xs)
  rises_from [] sorted before first = tt
  rises_from (x ∷ xs) sorted before first = (
    first x (omega arith),
    rises_from xs (λ k d below. sorted (suc k) d (omega arith)) (viewed x).frames
        (λ d some. next x (get_or xs 0 d) (sorted 0 d (omega arith))),
  )

  pub rises-sorted : (xs : List Stack) → IsSortedBy lt xs → Rises [] (map viewed xs)
  rises-sorted xs sorted =
      rises_from xs (λ k d below. let P : ℕ → Type 0 = λ n. lt (get_or xs n d) (get_or xs k d) ≡ false in subst P (add-one k) (sorted k d (omega arith) (omega arith))) [] (λ d some. none_before (viewed (get_or xs 0 d)).frames)
