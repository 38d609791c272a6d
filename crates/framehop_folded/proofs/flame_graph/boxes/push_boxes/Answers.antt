use Rattle.std.proofs.Common.{◌≡◌, ◌++◌, ◌∷◌, ◌+◌, ◌-◌, [], List, ℕ, Bor, append_assoc, ap, sym, ◌∙◌, arith, get_or, length, map}
use Rattle.std.specs.List.{range_with_len}
use Rattle.std.proofs.lemmas.List.{map-append, length-map}
use Rattle.framehop_folded.specs.declared.flame_graph.boxes.FrameBox.{FrameBox}
use Rattle.framehop_folded.specs.FlameGraph.Boxes.{boxed}
use Rattle.framehop_folded.proofs.BoxLemmas.{box_at, boxes-more}
use Rattle.framehop_folded.proofs.flame_graph.boxes.push_boxes.Goals as goal

pub loop-depth-preserved : goal.loop-depth-preserved
loop-depth-preserved c =
    let frames = c.args.frames.now in
    let f = box_at c.args.left (map (λ (frame : Bor (List ℕ)). frame.now) frames) c.args.here c.args.later.now in
    let shared = c.args.here.shared in
    let depth = c.loop-depth.depth in
    let initial = map boxed c.args.boxes.now.items in
    let none : Bor (List ℕ) = record { ref_ptr = (0, 0); now = [] } in
    let pushed : FrameBox = record { name = get_or frames depth none; depth = depth + 1; left = c.args.left; count = c.args.here.count + c.count_along.result } in
    let more = boxes-more c.args.left frames c.args.here c.args.later.now depth c.count_along.result none c.loop-depth.auto.depth c.loop-depth-test.true c.count_along.ensures.along in (
      omega arith,
      ap (map boxed) c.in_ok-push.ensures.items
          ∙ map-append boxed c.loop-depth.boxes.items (pushed ∷ [])
          ∙ ap (λ boxes. boxes ++ boxed pushed ∷ []) c.loop-depth.invariant.1
          ∙ append_assoc initial (map f (range_with_len shared (depth - shared))) (boxed pushed ∷ [])
          ∙ ap (λ boxes. initial ++ boxes) (sym more),
    )

pub returns : goal.returns
returns c =
    let frames = c.args.frames.now in
    let names = map (λ (frame : Bor (List ℕ)). frame.now) frames in
    let f = box_at c.args.left names c.args.here c.args.later.now in
    let shared = c.args.here.shared in
    let n : c.loop-depth.depth - shared ≡ length names - shared = omega (arith, length-map frames (λ (frame : Bor (List ℕ)). frame.now)) in
    c.loop-depth.invariant.1 ∙ ap (λ m. map boxed c.args.boxes.now.items ++ map f (range_with_len shared m)) n
