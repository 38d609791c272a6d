-- The boxes of both runs, as `change_graph` finds them.
use Rattle.std.proofs.Common.{◌≡◌, ◌<◌, ◌≤◌, ◌+◌, ◌∷◌, [], ℕ, List, arith, ap, sym, subst, ◌∙◌, get_or, length, map}
use Rattle.std.specs.List.{All}
use Rattle.std.specs.List.Sorted.{IsPermutation}
use Rattle.std.proofs.lemmas.List.{get_or-map, length-map}
use Rattle.framehop_folded.specs.declared.folded.Folded.{Folded}
use Rattle.framehop_folded.specs.declared.flame_graph.boxes.FrameBox.{FrameBox}
use Rattle.framehop_folded.specs.declared.flame_graph.changes.ChangedBox.{ChangedBox}
use Rattle.framehop_folded.specs.declared.flame_graph.stacks.Stack.{Stack}
use Rattle.framehop_folded.specs.FlameGraph.Boxes.{ArePrefixes, Box, boxed, box_of, boxes_of, root_of}
use Rattle.framehop_folded.specs.FlameGraph.Changes.{viewed_change, changes_of, joined}
use Rattle.framehop_folded.specs.FlameGraph.Stacks.{Stacked, viewed, viewed_before, stacks_of, stacks_before, total_of}
use Rattle.framehop_folded.specs.FlameGraph.Sweep.{Rises, boxes_along}
use Rattle.framehop_folded.proofs.ChangeLemmas.{prefixes-before, rises-before, joined-are, joined-at, joined-length}
use Rattle.framehop_folded.proofs.OrderLemmas.{Frames}
use Rattle.framehop_folded.proofs.PictureLemmas.{no_box}
use Rattle.framehop_folded.proofs.SweepLemmas.{prefixes_along, found, found-prefixes, boxes-within}

-- boxes end within the picture
within : (lines : List Stacked) (prefixes : List Frames) (frames : List FrameBox) → map boxed frames ≡ boxes_of lines prefixes
    → (k : ℕ) (d : FrameBox) → k < length frames → (get_or frames k d).left + (get_or frames k d).count ≤ total_of lines
within lines prefixes frames is k d below =
    let P : List Box → Type 0 = λ boxes. All (λ (box : Box). box.left + box.count ≤ total_of lines) boxes in
    let all : P (map boxed frames) = subst P (sym is) (boxes-within lines prefixes) in
    let here = all k (boxed d) (omega (arith, length-map frames boxed)) in
    let Q : Box → Type 0 = λ box. box.left + box.count ≤ total_of lines in
    subst Q (get_or-map boxed frames k d (boxed d) below) here

-- the stacks in order, those that both calls of `boxes_of` were given, and the boxes that both returned
module _ (new old : Folded) (stacks first second : List Stack)
    (same : IsPermutation (stacks_of new) (map viewed stacks))
    (before : IsPermutation (stacks_before new old) (map viewed_before stacks))
    (rises : Rises [] (map viewed stacks)) (first_is : first ≡ stacks) (second_is : map viewed second ≡ map viewed_before stacks)
    (frames befores : List FrameBox)
    (frames_are : map boxed frames ≡ root_of (map viewed first) ∷ boxes_along 0 [] (map viewed first))
    (befores_are : map boxed befores ≡ root_of (map viewed second) ∷ boxes_along 0 [] (map viewed second)) where
  new_boxes : map boxed frames ≡ boxes_of (stacks_of new) (prefixes_along [] (map viewed stacks))
  new_boxes =
      frames_are ∙ ap (λ all. root_of (map viewed all) ∷ boxes_along 0 [] (map viewed all)) first_is
      ∙ found (stacks_of new) (map viewed stacks) same rises

  old_boxes : map boxed befores ≡ boxes_of (stacks_before new old) (prefixes_along [] (map viewed stacks))
  old_boxes =
      befores_are ∙ ap (λ all. root_of all ∷ boxes_along 0 [] all) second_is
      ∙ found (stacks_before new old) (map viewed_before stacks) before (rises-before [] stacks rises)
      ∙ ap (boxes_of (stacks_before new old)) (prefixes-before [] stacks)

  pub lengths : length befores ≡ length frames
  lengths =
      let all = prefixes_along [] (map viewed stacks) in
      omega (
        arith,
        ap length new_boxes,
        ap length old_boxes,
        length-map frames boxed,
        length-map befores boxed,
        length-map all (box_of (stacks_of new)),
        length-map all (box_of (stacks_before new old)),
      )

  pub prefixes-are : ArePrefixes (stacks_of new) (prefixes_along [] (map viewed stacks))
  prefixes-are = found-prefixes (stacks_of new) (map viewed stacks) same rises

  pub changes-are : map viewed_change (joined frames befores) ≡ changes_of (stacks_of new) (stacks_before new old) (prefixes_along [] (map viewed stacks))
  changes-are = joined-are (stacks_of new) (stacks_before new old) (prefixes_along [] (map viewed stacks)) frames befores new_boxes old_boxes

  pub joined-within : (k : ℕ) (d : ChangedBox) → k < length (joined frames befores)
      → (get_or (joined frames befores) k d).frame.left + (get_or (joined frames befores) k d).frame.count ≤ total_of (stacks_of new)
  joined-within k d below =
      let size = joined-length frames befores lengths in
      let at = joined-at frames befores k no_box d (omega (arith, size)) (omega (arith, size, lengths)) in
      let here = within (stacks_of new) (prefixes_along [] (map viewed stacks)) frames new_boxes k no_box (omega (arith, size)) in
      let P : ChangedBox → Type 0 = λ change. change.frame.left + change.frame.count ≤ total_of (stacks_of new) in
      subst P (sym at) here

  pub joined-before : (k : ℕ) (d : ChangedBox) → k < length (joined frames befores)
      → (get_or (joined frames befores) k d).before ≤ total_of (stacks_before new old)
  joined-before k d below =
      let size = joined-length frames befores lengths in
      let at = joined-at frames befores k no_box d (omega (arith, size)) (omega (arith, size, lengths)) in
      let here = within (stacks_before new old) (prefixes_along [] (map viewed stacks)) befores old_boxes k no_box (omega (arith, size, lengths)) in
      let P : ChangedBox → Type 0 = λ change. change.before ≤ total_of (stacks_before new old) in
      subst P (sym at) (omega (arith, here))
