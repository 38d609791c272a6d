use Rattle.std.proofs.Common.{◌≡◌, ◌∙◌, ◌++◌, append-nil, ap, sym, subst, List, map}
use Rattle.std.specs.List.Sorted.{IsPermutation}
use Rattle.std.specs.Ordering.{is_lt, nat_cmp, ordering_then}
use Rattle.std.proofs.lemmas.List.Sorted.{IsPermutation-map}
use Rattle.framehop_folded.specs.FlameGraph.Stacks.{Stacked, viewed, viewed_before, stacked, stacked_before, stacks_of, stacks_before}
use Rattle.framehop_folded.proofs.StackLemmas.{rises-sorted, then_lt, compare_sorted}
use Rattle.framehop_folded.proofs.flame_graph.stacks.stacks_in_order.Goals as goal

pub returns-clause-same : goal.returns-clause-same
returns-clause-same c =
    let moved = IsPermutation-map viewed c.loop-stack.stacks.items c.sort.new.self.items c.sort.ensures.permutation in
    let all : map viewed c.loop-stack.stacks.items ≡ stacks_of c.args.folded.now =
    sym (append-nil (map viewed c.loop-stack.stacks.items))
    ∙ ap (λ left. map viewed c.loop-stack.stacks.items ++ map stacked left) (sym c.in-None.ensures.steps.0) ∙ c.loop-stack.invariant.0 in
    let P : List Stacked → Type 0 = λ stacks. IsPermutation stacks (map viewed c.sort.new.self.items) in
    subst P all moved

pub returns-clause-before : goal.returns-clause-before
returns-clause-before c =
    let folded = c.args.folded.now in
    let before = c.args.before.now in
    let moved = IsPermutation-map viewed_before c.loop-stack.stacks.items c.sort.new.self.items c.sort.ensures.permutation in
    let all : map viewed_before c.loop-stack.stacks.items ≡ stacks_before folded before =
    sym (append-nil (map viewed_before c.loop-stack.stacks.items))
    ∙ ap (λ left. map viewed_before c.loop-stack.stacks.items ++ map (stacked_before before) left) (sym c.in-None.ensures.steps.0) ∙ c.loop-stack.invariant.1 in
    let P : List Stacked → Type 0 = λ stacks. IsPermutation stacks (map viewed_before c.sort.new.self.items) in
    subst P all moved

pub returns-clause-ordered : goal.returns-clause-ordered
returns-clause-ordered c = rises-sorted (λ x y. is_lt (ordering_then (compare_sorted x y) (ordering_then (nat_cmp x.count y.count) (nat_cmp x.before y.before))))
    (λ x y h. then_lt (compare_sorted x y) (ordering_then (nat_cmp x.count y.count) (nat_cmp x.before y.before)) h) c.sort.new.self.items c.in_ok-sort.ensures.sorted
