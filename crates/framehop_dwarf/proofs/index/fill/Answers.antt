use Rattle.std.proofs.Common.{◌≡◌, ℕ, ◌<◌, ◌≤◌, ◌*◌, ◌+◌, ◌-◌, ◌/◌, length, map, get_or, arith, subst, sym, ◌∙◌}
use Rattle.std.proofs.lemmas.List.{length-map, get_or-map}
use Rattle.framehop_dwarf.specs.Index.{pair_of_key}
use Rattle.framehop_dwarf.proofs.Filled.{IsFilledTo, IsAt, at-next, at-same, rank-at, rank-is, some-step, one-more-place, next-place, is-filled, filled}
use Rattle.framehop_dwarf.proofs.index.fill.Goals.{then-within-width, else-within-width}
use Rattle.framehop_dwarf.proofs.index.fill.Goals as goal

pub bounds-keys-rank : goal.bounds-keys-rank
bounds-keys-rank c =
    let pairs = map pair_of_key c.args.keys.now in
    let here : c.loop-place._place < length pairs = omega (arith, c.loop-place-test.true, length-map c.args.keys.now pair_of_key) in
    let half = c.pow-half.result in
    let low : half ≤ length pairs = omega (arith, c.pow-half.ensures, c.ilog2.ensures.power_le, length-map c.args.keys.now pair_of_key) in
    let high : length pairs < 2 * half = omega (arith, c.pow-half.ensures, c.ilog2.ensures.next_power_gt, length-map c.args.keys.now pair_of_key) in
    let l = c.loop-place.invariant.level in
    let at : IsAt half c.if-within-width.width c.if-within-width.step c.if-within-width.within c.loop-place._place =
    elim c.if-within-width.branch [
      | then-within-width w ↦ at-next half c.loop-place.width c.loop-place.step c.loop-place.within (length pairs) c.loop-place._place _ _ _ l w.if-within-width.true w.width-is w.step-is w.within-is here high
      | else-within-width w ↦ at-same half c.loop-place.width c.loop-place.step c.loop-place.within c.loop-place._place _ _ _ l w.if-within-width.false w.width-is w.step-is w.within-is
    ] in
    let r = rank-at (length pairs) half c.if-within-width.width c.if-within-width.step c.if-within-width.within c.loop-place._place at.level at.less low high here in
    let some = some-step half c.if-within-width.width c.if-within-width.step c.if-within-width.within c.loop-place._place at.level in
    let left = 2 * c.if-within-width.within * c.if-within-width.step + c.if-within-width.step in
    let same = rank-is half (length pairs) (length c.args.keys.now) left c.min.result (length-map c.args.keys.now pair_of_key) low (omega arith) c.min.ensures in
    omega (arith, r, same, length-map c.args.keys.now pair_of_key)

pub loop-place-preserved : goal.loop-place-preserved
loop-place-preserved c =
    let pairs = map pair_of_key c.args.keys.now in
    let here : c.loop-place._place < length pairs = omega (arith, c.loop-place-test.true, length-map c.args.keys.now pair_of_key) in
    let half = c.pow-half.result in
    let low : half ≤ length pairs = omega (arith, c.pow-half.ensures, c.ilog2.ensures.power_le, length-map c.args.keys.now pair_of_key) in
    let high : length pairs < 2 * half = omega (arith, c.pow-half.ensures, c.ilog2.ensures.next_power_gt, length-map c.args.keys.now pair_of_key) in
    let l = c.loop-place.invariant.level in
    let at : IsAt half c.if-within-width.width c.if-within-width.step c.if-within-width.within c.loop-place._place =
    elim c.if-within-width.branch [
      | then-within-width w ↦ at-next half c.loop-place.width c.loop-place.step c.loop-place.within (length pairs) c.loop-place._place _ _ _ l w.if-within-width.true w.width-is w.step-is w.within-is here high
      | else-within-width w ↦ at-same half c.loop-place.width c.loop-place.step c.loop-place.within c.loop-place._place _ _ _ l w.if-within-width.false w.width-is w.step-is w.within-is
    ] in
    let r = rank-at (length pairs) half c.if-within-width.width c.if-within-width.step c.if-within-width.within c.loop-place._place at.level at.less low high here in
    let some = some-step half c.if-within-width.width c.if-within-width.step c.if-within-width.within c.loop-place._place at.level in
    let left = 2 * c.if-within-width.within * c.if-within-width.step + c.if-within-width.step in
    let same = rank-is half (length pairs) (length c.args.keys.now) left c.min.result (length-map c.args.keys.now pair_of_key) low (omega arith) c.min.ensures in
    let place : ℕ = (left - 1) / 2 + c.min.result in
    let pair : c.pair_of_key.result ≡ get_or pairs place (0, 0) =
    c.pair_of_key.ensures ∙ sym (get_or-map pair_of_key c.args.keys.now place 0 (0, 0) (omega (arith, r, same, length-map c.args.keys.now pair_of_key))) in
    let so = one-more-place c.loop-place.tree.items pairs half c.if-within-width.width c.if-within-width.step c.if-within-width.within c.loop-place._place at.level at.less c.loop-place.invariant.filled in
    record {
      filled = rw (c.in_ok-push.ensures.items, pair, ← same) so;
      level = next-place half c.if-within-width.width c.if-within-width.step c.if-within-width.within c.loop-place._place at.level at.less;
    }

pub returns : goal.returns
returns c =
    let pairs = map pair_of_key c.args.keys.now in
    let half = c.pow-half.result in
    let within = length-map c.args.keys.now pair_of_key in
    let so = c.loop-place.invariant.filled in
    let done : c.loop-place._place ≡ length pairs = omega (arith, c.loop-place-test.false, c.loop-place.auto._place-end, within) in
    let all : IsFilledTo c.loop-place.tree.items pairs half (length pairs) = subst (λ k. IsFilledTo c.loop-place.tree.items pairs half k) done so in
    filled c.loop-place.tree.items pairs half
    (is-filled c.loop-place.tree.items pairs half (omega (arith, c.pow-half.ensures, c.ilog2.ensures.power_le, within)) (omega (arith, c.pow-half.ensures, c.ilog2.ensures.next_power_gt, within)) all)
    c.ilog2.result c.pow-half.ensures
