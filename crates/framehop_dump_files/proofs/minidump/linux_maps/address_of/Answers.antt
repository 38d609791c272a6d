use Rattle.std.proofs.Common.{◌≡◌, ℕ, ◌<◌, ◌≤◌, ◌+◌, ◌*◌, ◌^◌, ◌∙◌, suc, true, get_or, ap, arith, rules}
use Rattle.std.proofs.lemmas.Bool.Decides.{nat_tests}
use Rattle.std.proofs.Math.Nat.{pow-succ', pow-le-pow_right}
use Rattle.std.specs.Char.{is_digit, digit_value}
use Rattle.std.proofs.lemmas.Int.Digits.{digits_value_more}
use Rattle.std.proofs.lemmas.List.Folds.{list_all_more}
use Rattle.framehop_dump_files.proofs.minidump.linux_maps.address_of.Goals as goal

below_all : (i : ℕ) → i < 16 → 16 ^ i ≤ 16 ^ 15
below_all i few = pow-le-pow_right {n = 16} (omega arith) {i = i} {j = 15} (omega arith)

times-16 : (i : ℕ) → 16 ^ (i + 1) ≡ 16 * 16 ^ i
times-16 i = ap (λ n. 16 ^ n) (let same : i + 1 ≡ suc i = omega arith in same) ∙ pow-succ' 16 i

pub overflow_mul-address : goal.overflow_mul-address
overflow_mul-address c =
    let most = below_all c.loop-digit.digit-index (omega arith) in omega (arith, most, c.loop-digit.invariant.2)

pub overflow_add-address : goal.overflow_add-address
overflow_add-address c =
    let most = below_all c.loop-digit.digit-index (omega arith) in
    omega (arith, most, c.loop-digit.invariant.2, c.in_ok-value.ensures.value)

pub loop-digit-preserved : goal.loop-digit-preserved
loop-digit-preserved c =
    let digits = c.args.digits.now in
    let i = c.loop-digit.digit-index in
    let within = c.loop-digit-test.true in
    let value : c.in_ok-value.value ≡ digit_value (get_or digits i 0) = search rules in
    let passes : is_digit (get_or digits i 0) 16 ≡ true = grind (arith, nat_tests) in (
      rw (list_all_more (λ digit. is_digit digit 16) digits i 0 within, c.loop-digit.invariant.0) passes,
      rw (digits_value_more 16 digits i within) (omega (arith, c.loop-digit.invariant.1, value, c.from-in-loop-digit.ensures)),
      rw (times-16 i) (omega (arith, c.loop-digit.invariant.2, c.in_ok-value.ensures.value, c.from-in-loop-digit.ensures)),
    )
