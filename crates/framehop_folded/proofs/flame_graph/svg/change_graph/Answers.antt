use Rattle.std.proofs.Common.{◌≡◌, ◌≤◌, ◌<◌, ◌+◌, ◌-◌, ◌++◌, ◌∙◌, [], List, ℕ, append-nil, arith, ap, sym, subst, drop, take, get_or, length, map}
use Rattle.std.specs.List.{filter}
use Rattle.std.specs.String.{string_bytes}
use Rattle.std.proofs.lemmas.List.{drop_all, take_all, length-map}
use Rattle.framehop_folded.specs.declared.folded.Folded.{Folded}
use Rattle.framehop_folded.specs.declared.flame_graph.changes.ChangedBox.{ChangedBox}
use Rattle.framehop_folded.specs.declared.flame_graph.changes.Totals.{Totals}
use Rattle.framehop_folded.specs.declared.flame_graph.stacks.Stack.{Stack}
use Rattle.framehop_folded.specs.FlameGraph.Changes.{viewed_change, is_drawn, change_picture_of, shown_changes_of, joined, changes_of, IsChangeGraph}
use Rattle.framehop_folded.specs.FlameGraph.Stacks.{viewed, viewed_before, stacks_of, stacks_before, total_of}
use Rattle.framehop_folded.proofs.GraphLemmas.{lengths, prefixes-are, changes-are, joined-within, joined-before}
use Rattle.framehop_folded.proofs.SweepLemmas.{prefixes_along, total-permuted}
use Rattle.framehop_folded.proofs.flame_graph.svg.change_graph.Goals as goal

-- what is lent of stacks that took their counts
lent-again : (stacks first taken_of news lent : List Stack) (len : ℕ) → first ≡ stacks → len ≡ length stacks → taken_of ≡ stacks
    → map viewed news ≡ map viewed_before taken_of → lent ≡ take len (news ++ drop (length news) stacks) → map viewed lent ≡ map viewed_before stacks
lent-again stacks first taken_of news lent len first_is len_is of_is taken_is lent_is =
    let taken : map viewed news ≡ map viewed_before stacks = taken_is ∙ ap (map viewed_before) of_is in
    let same : length news ≡ length stacks = omega (arith, ap length taken, length-map news viewed, length-map stacks viewed_before) in
    let none = drop_all (length news) stacks (omega (arith, same)) in
    ap (map viewed) (lent_is ∙ ap (λ rest. take len (news ++ rest)) none ∙ ap (take len) (append-nil news) ∙ take_all len news (omega (arith, len_is, same))) ∙ taken

-- what holds of the boxes that are lent holds of them
of-lent : (P : ChangedBox → Type 0) (lent items all : List ChangedBox) → lent ≡ items → items ≡ all
    → ((k : ℕ) (d : ChangedBox) → k < length all → P (get_or all k d)) → (k : ℕ) (d : ChangedBox) → k < length lent → P (get_or lent k d)
of-lent P lent items all lent_is items_is each =
    let Q : List ChangedBox → Type 0 = λ changes. (k : ℕ) (d : ChangedBox) → k < length changes → P (get_or changes k d) in
    subst Q (sym (lent_is ∙ items_is)) each

pub boxes_of-requires-2 : goal.boxes_of-requires-2
boxes_of-requires-2 c =
    let stacks = c.in_ok-stacks.stacks.items in
    let again = lent-again stacks c.as_slice.result.now c.as_mut_slice.result.now c.take_before.new.stacks c.as_slice-2.result.now c.in_ok-stacks.stacks.len
    c.as_slice.ensures.value (omega (arith, c.as_slice.ensures.len, ap length c.as_slice.ensures.value)) c.as_mut_slice.ensures.value c.take_before.ensures c.as_slice-2.ensures.value in
    let all = total-permuted (stacks_before c.new-folded.result.now c.old-old.result.now) (map viewed_before stacks) c.in_ok-stacks.ensures.before in
    c.in-Some-total_before.ensures ∙ sym all ∙ ap total_of (sym again)

pub join-requires : goal.join-requires
join-requires c =
    let stacks = c.in_ok-stacks.stacks.items in
    let again = lent-again stacks c.as_slice.result.now c.as_mut_slice.result.now c.take_before.new.stacks c.as_slice-2.result.now c.in_ok-stacks.stacks.len
    c.as_slice.ensures.value (omega (arith, c.as_slice.ensures.len, ap length c.as_slice.ensures.value)) c.as_mut_slice.ensures.value c.take_before.ensures c.as_slice-2.ensures.value in
    let both = lengths c.new-folded.result.now c.old-old.result.now stacks c.as_slice.result.now c.as_slice-2.result.now
    c.in_ok-stacks.ensures.same c.in_ok-stacks.ensures.before c.in_ok-stacks.ensures.ordered c.as_slice.ensures.value again
    c.in_ok-boxes.boxes.items c.in_ok-boxes_before.boxes_before.items c.in_ok-boxes.ensures c.in_ok-boxes_before.ensures in
    omega (arith, both, ap length c.as_slice-3.ensures.value, ap length c.as_slice-4.ensures.value)

pub shown_changes-requires-clause-within : goal.shown_changes-requires-clause-within
shown_changes-requires-clause-within c =
    let stacks = c.in_ok-stacks.stacks.items in
    let again = lent-again stacks c.as_slice.result.now c.as_mut_slice.result.now c.take_before.new.stacks c.as_slice-2.result.now c.in_ok-stacks.stacks.len
    c.as_slice.ensures.value (omega (arith, c.as_slice.ensures.len, ap length c.as_slice.ensures.value)) c.as_mut_slice.ensures.value c.take_before.ensures c.as_slice-2.ensures.value in
    let frames = c.in_ok-boxes.boxes.items in
    let befores = c.in_ok-boxes_before.boxes_before.items in
    let joined_is : c.in_ok-joined.joined.items ≡ joined frames befores =
    c.in_ok-joined.ensures ∙ ap (λ all. joined all c.as_slice-4.result.now) c.as_slice-3.ensures.value ∙ ap (joined frames) c.as_slice-4.ensures.value in
    let each = joined-within c.new-folded.result.now c.old-old.result.now stacks c.as_slice.result.now c.as_slice-2.result.now
    c.in_ok-stacks.ensures.same c.in_ok-stacks.ensures.before c.in_ok-stacks.ensures.ordered c.as_slice.ensures.value again
    c.in_ok-boxes.boxes.items c.in_ok-boxes_before.boxes_before.items c.in_ok-boxes.ensures c.in_ok-boxes_before.ensures in
    of-lent (λ change. change.frame.left + change.frame.count ≤ c.in-Some.now) c.as_slice-5.result.now c.in_ok-joined.joined.items (joined frames befores)
    c.as_slice-5.ensures.value joined_is (λ k d below. omega (arith, each k d below, c.in-Some.ensures))

pub shown_changes-requires-clause-before : goal.shown_changes-requires-clause-before
shown_changes-requires-clause-before c =
    let stacks = c.in_ok-stacks.stacks.items in
    let again = lent-again stacks c.as_slice.result.now c.as_mut_slice.result.now c.take_before.new.stacks c.as_slice-2.result.now c.in_ok-stacks.stacks.len
    c.as_slice.ensures.value (omega (arith, c.as_slice.ensures.len, ap length c.as_slice.ensures.value)) c.as_mut_slice.ensures.value c.take_before.ensures c.as_slice-2.ensures.value in
    let frames = c.in_ok-boxes.boxes.items in
    let befores = c.in_ok-boxes_before.boxes_before.items in
    let joined_is : c.in_ok-joined.joined.items ≡ joined frames befores =
    c.in_ok-joined.ensures ∙ ap (λ all. joined all c.as_slice-4.result.now) c.as_slice-3.ensures.value ∙ ap (joined frames) c.as_slice-4.ensures.value in
    let each = joined-before c.new-folded.result.now c.old-old.result.now stacks c.as_slice.result.now c.as_slice-2.result.now
    c.in_ok-stacks.ensures.same c.in_ok-stacks.ensures.before c.in_ok-stacks.ensures.ordered c.as_slice.ensures.value again
    c.in_ok-boxes.boxes.items c.in_ok-boxes_before.boxes_before.items c.in_ok-boxes.ensures c.in_ok-boxes_before.ensures in
    of-lent (λ change. change.before ≤ c.in-Some-total_before.before) c.as_slice-5.result.now c.in_ok-joined.joined.items (joined frames befores)
    c.as_slice-5.ensures.value joined_is (λ k d below. omega (arith, each k d below, c.in-Some-total_before.ensures))

pub returns-clause-drawn : goal.returns-clause-drawn
returns-clause-drawn c =
    let new = c.new-folded.result.now in
    let old = c.old-old.result.now in
    let stacks = c.in_ok-stacks.stacks.items in
    let prefixes = prefixes_along [] (map viewed stacks) in
    let again = lent-again stacks c.as_slice.result.now c.as_mut_slice.result.now c.take_before.new.stacks c.as_slice-2.result.now c.in_ok-stacks.stacks.len
    c.as_slice.ensures.value (omega (arith, c.as_slice.ensures.len, ap length c.as_slice.ensures.value)) c.as_mut_slice.ensures.value c.take_before.ensures c.as_slice-2.ensures.value in
    let frames = c.in_ok-boxes.boxes.items in
    let befores = c.in_ok-boxes_before.boxes_before.items in
    let joined_is : c.in_ok-joined.joined.items ≡ joined frames befores =
    c.in_ok-joined.ensures ∙ ap (λ all. joined all c.as_slice-4.result.now) c.as_slice-3.ensures.value ∙ ap (joined frames) c.as_slice-4.ensures.value in
    let drawing = c.args.drawing in
    let totals : Totals = record { before = c.in-Some-total_before.before; now = c.in-Some.now } in
    let are = prefixes-are c.new-folded.result.now c.old-old.result.now stacks c.as_slice.result.now c.as_slice-2.result.now
    c.in_ok-stacks.ensures.same c.in_ok-stacks.ensures.before c.in_ok-stacks.ensures.ordered c.as_slice.ensures.value again
    c.in_ok-boxes.boxes.items c.in_ok-boxes_before.boxes_before.items c.in_ok-boxes.ensures c.in_ok-boxes_before.ensures in
    let all : map viewed_change c.as_slice-5.result.now ≡ changes_of (stacks_of new) (stacks_before new old) prefixes =
    ap (map viewed_change) (c.as_slice-5.ensures.value ∙ joined_is) ∙ changes-are c.new-folded.result.now c.old-old.result.now stacks c.as_slice.result.now c.as_slice-2.result.now
    c.in_ok-stacks.ensures.same c.in_ok-stacks.ensures.before c.in_ok-stacks.ensures.ordered c.as_slice.ensures.value again
    c.in_ok-boxes.boxes.items c.in_ok-boxes_before.boxes_before.items c.in_ok-boxes.ensures c.in_ok-boxes_before.ensures in
    let shown : map viewed_change c.as_slice-6.result.now ≡ filter (is_drawn totals) (changes_of (stacks_of new) (stacks_before new old) prefixes) =
    ap (map viewed_change) c.as_slice-6.ensures.value ∙ c.in_ok-shown.ensures.shown ∙ ap (filter (is_drawn totals)) all in
    let left_out : c.len.result - c.len-2.result
    ≡ length (changes_of (stacks_of new) (stacks_before new old) prefixes) - length (filter (is_drawn totals) (changes_of (stacks_of new) (stacks_before new old) prefixes)) =
    omega (
      arith,
      c.len.ensures,
      c.len-2.ensures,
      ap length all,
      ap length shown,
      ap length c.as_slice-5.ensures.value,
      ap length c.as_slice-6.ensures.value,
      length-map c.as_slice-5.result.now viewed_change,
      length-map c.as_slice-6.result.now viewed_change,
    ) in
    let drawn = c.in_ok-draw_changes.ensures
    ∙ ap (λ changes. change_picture_of drawing totals changes (c.len.result - c.len-2.result)) shown
    ∙ ap (change_picture_of drawing totals (filter (is_drawn totals) (changes_of (stacks_of new) (stacks_before new old) prefixes))) left_out
    ∙ ap (λ n. shown_changes_of drawing (record { before = n; now = c.in-Some.now }) (changes_of (stacks_of new) (stacks_before new old) prefixes)) c.in-Some-total_before.ensures
    ∙ ap (λ n. shown_changes_of drawing (record { before = total_of (stacks_before new old); now = n }) (changes_of (stacks_of new) (stacks_before new old) prefixes)) c.in-Some.ensures in
    let P : Folded → Folded → Type 0 = λ n o. IsChangeGraph drawing (stacks_of n) (stacks_before n o) (string_bytes c.in_ok-draw_changes.field-0) in
    subst (λ n. P n c.args.changes.now.old) c.new-folded.ensures (subst (P new) c.old-old.ensures (prefixes, are, drawn))
