use Rattle.std.proofs.Common.{◌≡◌, ◌<◌, ◌-◌, ◌∙◌, ap, sym, arith, get_or, map, List, ℕ, Bor}
use Rattle.std.proofs.lemmas.Bool.Decides.{nat_tests}
use Rattle.std.proofs.lemmas.List.{get_or-map, length-map}
use Rattle.framehop_folded.specs.FlameGraph.Stacks.{Stacked, viewed}
use Rattle.framehop_folded.specs.FlameGraph.Sweep.{shared_frames, frames_before}
use Rattle.framehop_folded.proofs.StackLemmas.{common-map, frames-before}
use Rattle.framehop_folded.proofs.flame_graph.stacks.shared_at.Goals as goal

pub returns : goal.returns
returns c = λ d.
    let stacks = c.args.stacks.now in
    let at = c.args.at in
    let size = length-map stacks viewed in
    let above : 0 < at = grind (arith, nat_tests) in
    let first = c.index-stacks-at.result in
    let second = c.index-stacks-at-2.result in
    let before : frames_before (map viewed stacks) at ≡ map (λ (frame : Bor (List ℕ)). frame.now) c.as_slice.result.now =
    frames-before (map viewed stacks) at (viewed first) above (omega (arith, size))
    ∙ ap (λ (stack : Stacked). stack.frames) (get_or-map viewed stacks (at - 1) first (viewed first) (omega arith))
    ∙ ap (map (λ (frame : Bor (List ℕ)). frame.now)) (sym c.as_slice.ensures.value) in
    let frames : (get_or (map viewed stacks) at d).frames ≡ map (λ (frame : Bor (List ℕ)). frame.now) c.as_slice-2.result.now =
    ap (λ (stack : Stacked). stack.frames) (get_or-map viewed stacks at second d (omega arith))
    ∙ ap (map (λ (frame : Bor (List ℕ)). frame.now)) (sym c.as_slice-2.ensures.value) in
    c.shared_frames.ensures ∙ common-map c.as_slice.result.now c.as_slice-2.result.now
    ∙ ap (λ frames. shared_frames frames (map (λ (frame : Bor (List ℕ)). frame.now) c.as_slice-2.result.now)) (sym before)
    ∙ ap (shared_frames (frames_before (map viewed stacks) at)) (sym frames)
