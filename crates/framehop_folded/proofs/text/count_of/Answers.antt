use Rattle.std.proofs.Common.{arith, ◌∙◌, ◌≡◌, ◌≤◌, ◌*◌, ◌+◌, ◌-◌, ◌^◌, ap, sym, drop, get_or, true, false}
use Rattle.std.specs.Char.{is_ascii_digit}
use Rattle.std.proofs.lemmas.Bool.Decides.{nat_tests}
use Rattle.std.proofs.lemmas.List.{at_drop_more, at_drop_all}
use Rattle.framehop_folded.proofs.TextLemmas.{count_from, count_from-large, count_from-digit, count_from-other, count_from-end, count_of-from}
use Rattle.framehop_folded.proofs.text.count_of.Goals as goal

pub loop-digit-init : goal.loop-digit-init
loop-digit-init c = (count_of-from c.args.digits.now (grind (arith, nat_tests)), omega arith)

pub returns-then-not-is_ascii_digit : goal.returns-then-not-is_ascii_digit
returns-then-not-is_ascii_digit c =
    let digit = get_or c.args.digits.now c.loop-digit.digit-index 0 in
    let other : is_ascii_digit digit ≡ false = cc in
    sym (c.loop-digit.invariant.0
    ∙ at_drop_more (count_from c.loop-digit.count) c.args.digits.now c.loop-digit.digit-index 0 c.loop-digit-test.true
    ∙ count_from-other c.loop-digit.count digit (drop (c.loop-digit.digit-index + 1) c.args.digits.now) other)

pub returns-in_err-checked_mul : goal.returns-in_err-checked_mul
returns-in_err-checked_mul c =
    let digit = get_or c.args.digits.now c.loop-digit.digit-index 0 in
    let rest = drop (c.loop-digit.digit-index + 1) c.args.digits.now in
    let is : is_ascii_digit digit ≡ true = cc in
    let large : 2 ^ 64 ≤ c.loop-digit.count * 10 + (digit - 48) = omega (arith, c.in_err-checked_mul.ensures) in
    c.from_residual.ensures ∙ sym (c.loop-digit.invariant.0
    ∙ at_drop_more (count_from c.loop-digit.count) c.args.digits.now c.loop-digit.digit-index 0 c.loop-digit-test.true
    ∙ count_from-digit c.loop-digit.count digit rest is
    ∙ count_from-large (c.loop-digit.count * 10 + (digit - 48)) rest large)

pub returns-in_err-count : goal.returns-in_err-count
returns-in_err-count c =
    let digit = get_or c.args.digits.now c.loop-digit.digit-index 0 in
    let rest = drop (c.loop-digit.digit-index + 1) c.args.digits.now in
    let is : is_ascii_digit digit ≡ true = cc in
    let large : 2 ^ 64 ≤ c.loop-digit.count * 10 + (digit - 48) = omega (arith, c.in_err-count.ensures, c.in_ok-checked_mul.ensures) in
    c.from_residual-in_err-count.ensures ∙ sym (c.loop-digit.invariant.0
    ∙ at_drop_more (count_from c.loop-digit.count) c.args.digits.now c.loop-digit.digit-index 0 c.loop-digit-test.true
    ∙ count_from-digit c.loop-digit.count digit rest is
    ∙ count_from-large (c.loop-digit.count * 10 + (digit - 48)) rest large)

pub loop-digit-preserved : goal.loop-digit-preserved
loop-digit-preserved c =
    let digit = get_or c.args.digits.now c.loop-digit.digit-index 0 in
    let rest = drop (c.loop-digit.digit-index + 1) c.args.digits.now in
    let is : is_ascii_digit digit ≡ true = cc in
    let next : c.loop-digit.count * 10 + (digit - 48) ≡ c.in_ok-count.count = omega (arith, c.in_ok-count.ensures, c.in_ok-checked_mul.ensures) in (
      c.loop-digit.invariant.0
          ∙ at_drop_more (count_from c.loop-digit.count) c.args.digits.now c.loop-digit.digit-index 0 c.loop-digit-test.true
          ∙ count_from-digit c.loop-digit.count digit rest is
          ∙ ap (λ n. count_from n rest) next,
      omega (arith, c.in_ok-count.ensures),
    )

pub returns : goal.returns
returns c =
    sym (c.loop-digit.invariant.0
    ∙ at_drop_all (count_from c.loop-digit.count) c.args.digits.now c.loop-digit.digit-index (omega arith)
    ∙ count_from-end c.loop-digit.count (omega arith))
