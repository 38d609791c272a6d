use Rattle.std.proofs.Common.{rules}
use Rattle.std.specs.List.Sorted.{IsNonDecreasingBy}
use Rattle.std.proofs.lemmas.List.Sorted.{IsNonDecreasingBy-from_sort_by_key}
use Rattle.framehop_check.proofs.MissingLemmas.{start_of, loop-held, loop-below, loop-ordered, loop-whole}
use Rattle.framehop_check.proofs.missing.gaps.Goals as goal

pub returns-clause-held : goal.returns-clause-held
returns-clause-held c =
    let items = c.sort_by_key.new.self.items in
    let sorted : IsNonDecreasingBy start_of items =
    IsNonDecreasingBy-from_sort_by_key start_of items c.in_ok-sort_by_key.ensures.sorted (λ a r q k. search rules) in
    let inv = rw c.deref-range-items.ensures.value at c.loop-range.invariant in
    let past = rw c.deref-range-items.ensures.value at c.loop-range-test.false in
    loop-held c.args.ranges.items items c.in_ok-sort_by_key.ensures.permutation sorted c.loop-range.at c.loop-range.range-index
    c.loop-range.gaps.items _ past inv.fits c.in_ok-push_gap-2.ensures inv.gaps inv.reach

pub returns-clause-below : goal.returns-clause-below
returns-clause-below c =
    let items = c.sort_by_key.new.self.items in
    let sorted : IsNonDecreasingBy start_of items =
    IsNonDecreasingBy-from_sort_by_key start_of items c.in_ok-sort_by_key.ensures.sorted (λ a r q k. search rules) in
    let inv = rw c.deref-range-items.ensures.value at c.loop-range.invariant in
    let past = rw c.deref-range-items.ensures.value at c.loop-range-test.false in
    loop-below c.args.ranges.items items c.in_ok-sort_by_key.ensures.permutation sorted c.loop-range.at c.loop-range.range-index
    c.loop-range.gaps.items _ past inv.fits c.in_ok-push_gap-2.ensures inv.gaps inv.reach

pub returns-clause-ordered : goal.returns-clause-ordered
returns-clause-ordered c =
    let items = c.sort_by_key.new.self.items in
    let sorted : IsNonDecreasingBy start_of items =
    IsNonDecreasingBy-from_sort_by_key start_of items c.in_ok-sort_by_key.ensures.sorted (λ a r q k. search rules) in
    let inv = rw c.deref-range-items.ensures.value at c.loop-range.invariant in
    let past = rw c.deref-range-items.ensures.value at c.loop-range-test.false in
    loop-ordered c.args.ranges.items items c.in_ok-sort_by_key.ensures.permutation sorted c.loop-range.at c.loop-range.range-index
    c.loop-range.gaps.items _ past inv.fits c.in_ok-push_gap-2.ensures inv.gaps inv.reach

pub returns-clause-whole : goal.returns-clause-whole
returns-clause-whole c =
    let items = c.sort_by_key.new.self.items in
    let sorted : IsNonDecreasingBy start_of items =
    IsNonDecreasingBy-from_sort_by_key start_of items c.in_ok-sort_by_key.ensures.sorted (λ a r q k. search rules) in
    let inv = rw c.deref-range-items.ensures.value at c.loop-range.invariant in
    let past = rw c.deref-range-items.ensures.value at c.loop-range-test.false in
    loop-whole c.args.ranges.items items c.in_ok-sort_by_key.ensures.permutation sorted c.loop-range.at c.loop-range.range-index
    c.loop-range.gaps.items _ past inv.fits c.in_ok-push_gap-2.ensures inv.gaps inv.reach
