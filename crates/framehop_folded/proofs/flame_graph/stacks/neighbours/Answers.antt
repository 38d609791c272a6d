use Rattle.std.proofs.Common.{◌++◌, ◌∷◌, ◌+◌, [], append_assoc, ap, sym, ◌∙◌, arith, drop, get_or, length, map}
use Rattle.std.proofs.lemmas.List.{length-append, length-drop, length-map}
use Rattle.framehop_folded.specs.declared.flame_graph.stacks.Neighbour.{Neighbour}
use Rattle.framehop_folded.specs.FlameGraph.Stacks.{Stacked, viewed}
use Rattle.framehop_folded.specs.FlameGraph.Sweep.{shared_frames, frames_before, neighbours_of}
use Rattle.framehop_folded.proofs.StackLemmas.{neighbours-length, neighbours-more, viewed-at}
use Rattle.framehop_folded.proofs.flame_graph.stacks.neighbours.Goals as goal

pub loop-at-preserved : goal.loop-at-preserved
loop-at-preserved c =
    let stacks = map viewed c.args.stacks.now in
    let at = c.loop-at.at in
    let stack = c.index-stacks-at.result in
    let before = frames_before stacks at in
    let found = viewed-at c.args.stacks.now at stack c.loop-at-test.true c.index-stacks-at.is in
    let more = neighbours-more stacks at (viewed stack) (omega (arith, length-map c.args.stacks.now viewed)) in
    let rest = neighbours_of (frames_before stacks (at + 1)) (drop (at + 1) stacks) in
    let here = ap (λ n. record { shared = n; count = stack.count }) (c.shared_at.ensures (viewed stack))
    ∙ ap (λ (s : Stacked). record { shared = shared_frames before (get_or stacks at (viewed stack)).frames; count = s.count }) (sym found) in
    ap (λ items. items ++ rest) c.in_ok-push.ensures.items
    ∙ append_assoc c.loop-at.neighbours.items (record { shared = c.shared_at.result; count = stack.count } ∷ []) rest
    ∙ ap (λ (n : Neighbour). c.loop-at.neighbours.items ++ (n ∷ rest)) here
    ∙ ap (λ all. c.loop-at.neighbours.items ++ all) (sym more)
    ∙ c.loop-at.invariant

pub returns-clause-len : goal.returns-clause-len
returns-clause-len c =
    let stacks = map viewed c.args.stacks.now in
    let at = c.loop-at.at in
    let items = c.loop-at.neighbours.items in
    let left = neighbours_of (frames_before stacks at) (drop at stacks) in
    let all = ap length c.loop-at.invariant in
    let both = length-append items left in
    let rest = neighbours-length (frames_before stacks at) (drop at stacks) in
    let whole = neighbours-length [] stacks in
    omega (arith, all, both, rest, whole, length-drop at stacks, length-map c.args.stacks.now viewed, c.loop-at.neighbours.ok.0)
