use Rattle.std.proofs.Common.{◌≡◌, ◌++◌, ◌+◌, ◌-◌, List, ℕ, Bor, append_assoc, ap, sym, ◌∙◌, arith, drop, take, length, map}
use Rattle.std.specs.List.{sum_by}
use Rattle.std.proofs.lemmas.List.{take_all, length-drop}
use Rattle.framehop_folded.specs.declared.flame_graph.stacks.Neighbour.{Neighbour}
use Rattle.framehop_folded.specs.FlameGraph.Boxes.{boxed}
use Rattle.framehop_folded.specs.FlameGraph.Stacks.{viewed}
use Rattle.framehop_folded.specs.FlameGraph.Sweep.{shared_frames, frames_before, boxes_at, boxes_along}
use Rattle.framehop_folded.proofs.StackLemmas.{here-is, counts-fit, left-more, left-within, boxes-next}
use Rattle.framehop_folded.proofs.flame_graph.boxes.boxes_of.Goals as goal

rest-of : (deref neighbours : List Neighbour) (n : ℕ) → deref ≡ neighbours → take (length deref - n) (drop n deref) ≡ drop n neighbours
rest-of deref neighbours n is = take_all (length deref - n) (drop n deref) (omega (arith, length-drop n deref)) ∙ ap (drop n) is

pub push_boxes-requires : goal.push_boxes-requires
push_boxes-requires c =
    let stacks = c.args.stacks.now in
    let at = c.loop-at.at in
    let stack = c.index-stacks-at.result in
    let items = c.in_ok-neighbours.neighbours.items in
    let here = here-is stacks at stack c.loop-at-test.true c.index-stacks-at.is items c.in_ok-neighbours.ensures.neighbours c.index-here.result.now c.index-here.ensures in
    let count = ap (λ (n : Neighbour). n.count) here in
    let rest = ap (sum_by (λ (n : Neighbour). n.count)) (rest-of c.deref.result.now items (at + 1) c.deref.ensures.value) in
    let fit = counts-fit stacks at stack c.loop-at-test.true c.index-stacks-at.is items c.in_ok-neighbours.ensures.neighbours in
    omega (arith, count, rest, fit, c.requires)

pub overflow_add-left : goal.overflow_add-left
overflow_add-left c =
    let stacks = c.args.stacks.now in
    let at = c.loop-at.at in
    let stack = c.index-stacks-at.result in
    let items = c.in_ok-neighbours.neighbours.items in
    let more = left-more stacks at stack c.loop-at-test.true c.index-stacks-at.is items c.in_ok-neighbours.ensures.neighbours in
    let within = left-within stacks at stack c.loop-at-test.true c.index-stacks-at.is items c.in_ok-neighbours.ensures.neighbours in
    omega (arith, more, within, c.loop-at.invariant.0, c.requires)

pub loop-at-preserved : goal.loop-at-preserved
loop-at-preserved c =
    let stacks = c.args.stacks.now in
    let seen = map viewed stacks in
    let at = c.loop-at.at in
    let left = c.loop-at.left in
    let stack = c.index-stacks-at.result in
    let items = c.in_ok-neighbours.neighbours.items in
    let here = here-is stacks at stack c.loop-at-test.true c.index-stacks-at.is items c.in_ok-neighbours.ensures.neighbours c.index-here.result.now c.index-here.ensures in
    let rest = rest-of c.deref.result.now items (at + 1) c.deref.ensures.value in
    let frames = ap (map (λ (frame : Bor (List ℕ)). frame.now)) c.as_slice.ensures.value in
    let more = left-more stacks at stack c.loop-at-test.true c.index-stacks-at.is items c.in_ok-neighbours.ensures.neighbours in
    let next = boxes-next stacks at stack c.loop-at-test.true c.index-stacks-at.is items c.in_ok-neighbours.ensures.neighbours left in
    let after = boxes_along (left + stack.count) (frames_before seen (at + 1)) (drop (at + 1) seen) in
    let old = map boxed c.loop-at.boxes.items in
    let first : Neighbour = record { shared = shared_frames (frames_before seen at) (viewed stack).frames; count = stack.count } in
    let pushed : map boxed c.push_boxes.new.boxes.items ≡ old ++ boxes_at left (viewed stack).frames first (drop (at + 1) items) =
    c.in_ok-push_boxes.ensures
    ∙ ap (λ later. old ++ boxes_at left (map (λ (frame : Bor (List ℕ)). frame.now) c.as_slice.result.now) c.index-here.result.now later) rest
    ∙ ap (λ n. old ++ boxes_at left (map (λ (frame : Bor (List ℕ)). frame.now) c.as_slice.result.now) n (drop (at + 1) items)) here
    ∙ ap (λ names. old ++ boxes_at left names first (drop (at + 1) items)) frames in (
      omega (arith, more, c.loop-at.invariant.0),
      ap (λ boxes. boxes ++ after) pushed
          ∙ append_assoc old (boxes_at left (viewed stack).frames first (drop (at + 1) items)) after
          ∙ ap (λ boxes. old ++ boxes) (sym next)
          ∙ c.loop-at.invariant.1,
    )
