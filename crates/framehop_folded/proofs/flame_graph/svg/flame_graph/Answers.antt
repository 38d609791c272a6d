use Rattle.std.proofs.Common.{◌≡◌, ◌≤◌, ◌+◌, ◌-◌, ◌<◌, [], ◌∷◌, List, ℕ, ap, sym, subst, ◌∙◌, arith, get_or, length, map}
use Rattle.std.specs.List.{All, filter}
use Rattle.std.specs.List.Sorted.{IsPermutation}
use Rattle.std.proofs.lemmas.List.{get_or-map, length-map}
use Rattle.framehop_folded.specs.declared.flame_graph.boxes.FrameBox.{FrameBox}
use Rattle.framehop_folded.specs.declared.flame_graph.stacks.Stack.{Stack}
use Rattle.framehop_folded.specs.FlameGraph.Boxes.{Box, boxed, boxes_of, root_of}
use Rattle.framehop_folded.specs.FlameGraph.Numbers.{is_shown}
use Rattle.framehop_folded.specs.FlameGraph.Picture.{picture_of, shown_of}
use Rattle.framehop_folded.specs.FlameGraph.Stacks.{Stacked, viewed, stacks_of, total_of}
use Rattle.framehop_folded.specs.FlameGraph.Sweep.{Rises, boxes_along}
use Rattle.framehop_folded.proofs.SweepLemmas.{prefixes_along, found, found-prefixes, boxes-within}
use Rattle.framehop_folded.proofs.flame_graph.svg.flame_graph.Goals as goal

-- boxes that were found are those of the lines
are : (lines : List Stacked) (stacks lent : List Stack) (frames items : List FrameBox) → lent ≡ stacks → frames ≡ items
    → IsPermutation lines (map viewed stacks) → Rises [] (map viewed stacks)
    → map boxed items ≡ root_of (map viewed lent) ∷ boxes_along 0 [] (map viewed lent)
    → map boxed frames ≡ boxes_of lines (prefixes_along [] (map viewed stacks))
are lines stacks lent frames items lent_is frames_is same rises boxes =
    ap (map boxed) frames_is ∙ boxes ∙ ap (λ all. root_of (map viewed all) ∷ boxes_along 0 [] (map viewed all)) lent_is
    ∙ found lines (map viewed stacks) same rises

within : (lines : List Stacked) (prefixes : List (List (List ℕ))) (frames : List FrameBox) → map boxed frames ≡ boxes_of lines prefixes
    → (k : ℕ) (d : FrameBox) → k < length frames → (get_or frames k d).left + (get_or frames k d).count ≤ total_of lines
within lines prefixes frames is k d below =
    let P : List Box → Type 0 = λ boxes. All (λ (box : Box). box.left + box.count ≤ total_of lines) boxes in
    let all : P (map boxed frames) = subst P (sym is) (boxes-within lines prefixes) in
    let here = all k (boxed d) (omega (arith, length-map frames boxed)) in
    let Q : Box → Type 0 = λ box. box.left + box.count ≤ total_of lines in
    subst Q (get_or-map boxed frames k d (boxed d) below) here

pub shown_of-requires-clause-within : goal.shown_of-requires-clause-within
shown_of-requires-clause-within c = λ k d below.
    let lines = stacks_of c.args.folded.now in
    let boxes = are lines c.in_ok-stacks.stacks.items c.as_slice.result.now c.as_slice-2.result.now c.in_ok-boxes.boxes.items
    c.as_slice.ensures.value c.as_slice-2.ensures.value c.in_ok-stacks.ensures.same c.in_ok-stacks.ensures.ordered c.in_ok-boxes.ensures in
    omega (arith, c.in-Some.ensures, within lines (prefixes_along [] (map viewed c.in_ok-stacks.stacks.items)) c.as_slice-2.result.now boxes k d below)

pub returns-clause-drawn : goal.returns-clause-drawn
returns-clause-drawn c =
    let lines = stacks_of c.args.folded.now in
    let stacks = map viewed c.in_ok-stacks.stacks.items in
    let prefixes = prefixes_along [] stacks in
    let boxes = are lines c.in_ok-stacks.stacks.items c.as_slice.result.now c.as_slice-2.result.now c.in_ok-boxes.boxes.items
    c.as_slice.ensures.value c.as_slice-2.ensures.value c.in_ok-stacks.ensures.same c.in_ok-stacks.ensures.ordered c.in_ok-boxes.ensures in
    let shown = ap (map boxed) c.as_slice-3.ensures.value ∙ c.in_ok-shown.ensures.shown ∙ ap (filter (is_shown c.in-Some.total)) boxes in
    let drawing = c.args.drawing in
    let total = c.in-Some.total in
    let left_out : c.len.result - c.len-2.result ≡ length (boxes_of lines prefixes) - length (filter (is_shown total) (boxes_of lines prefixes)) =
    omega (
      arith,
      c.len.ensures,
      c.len-2.ensures,
      ap length boxes,
      ap length shown,
      ap length c.as_slice-2.ensures.value,
      ap length c.as_slice-3.ensures.value,
      length-map c.as_slice-2.result.now boxed,
      length-map c.as_slice-3.result.now boxed,
    ) in (
      prefixes,
      found-prefixes lines stacks c.in_ok-stacks.ensures.same c.in_ok-stacks.ensures.ordered,
      c.in_ok-draw.ensures ∙ ap (λ frames. picture_of drawing total frames (c.len.result - c.len-2.result)) shown
          ∙ ap (picture_of drawing total (filter (is_shown total) (boxes_of lines prefixes))) left_out
          ∙ ap (λ all. shown_of drawing all (boxes_of lines prefixes)) c.in-Some.ensures,
    )
