-- What `parse` reads of a word is the number that it is.
use Rattle.std.proofs.Common.{◌≡◌, ℕ, ◌<◌, ◌^◌, Bool, true, false, ◌&&◌, List, length, refl, arith, if◌then◌else◌}
use Rattle.std.proofs.lemmas.Bool.Decides.{nat_tests}
use Rattle.std.proofs.lemmas.Str.Parse.{IsNumeralModel, numerals_by_value, tells_all_ascii_digits}
use Rattle.std.specs.Prelude.{Some, None, Result, Ok, Err, nat_lt}
use Rattle.std.specs.Result.{result_ok}
use Rattle.std.specs.Str.{all_ascii_digits}
use Rattle.std.specs.Str.Parse.{IsNumeral, ParsesUnsigned, digits_value, without_leading_plus}
use Rattle.framehop_stacks_cli.specs.CommandLine.{digits_below, number_below}
use borrow.Author.Tests.{ltb-true}

digits_model : IsNumeralModel (λ ds. all_ascii_digits ds ≡ true) (digits_value 10)
digits_model = numerals_by_value _ tells_all_ascii_digits

all_hold : (a b c : Bool) (v : ℕ) → a ≡ true → b ≡ true → c ≡ true → Some v ≡ (if a && b && c then Some v else None)
all_hold a b c v p q r = rw (p, q, r) refl

one_fails : (a b c : Bool) (v : ℕ) → (a ≡ true → b ≡ true → c ≡ true → ⊥) → None ≡ (if a && b && c then Some v else None)
one_fails true true true v h = absurd (h refl refl refl)
one_fails true true false v h = refl
one_fails true false c v h = refl
one_fails false b c v h = refl

is_below : (bound : ℕ) (digits : List ℕ) → IsNumeral 10 digits → digits_value 10 digits < bound
    → Some (digits_value 10 digits) ≡ digits_below bound digits
is_below bound digits numeral below =
    all_hold (nat_lt 0 (length digits)) (all_ascii_digits digits) (nat_lt (digits_value 10 digits) bound) (digits_value 10 digits)
    (let h : 0 < length digits = numeral.0 in grind (arith, nat_tests))
    (digits_model.from digits numeral.1)
    (grind (arith, nat_tests))

is_not_below : (bound : ℕ) (digits : List ℕ) → (IsNumeral 10 digits × (digits_value 10 digits < bound) → ⊥) → None ≡ digits_below bound digits
is_not_below bound digits h =
    one_fails (nat_lt 0 (length digits)) (all_ascii_digits digits) (nat_lt (digits_value 10 digits) bound) (digits_value 10 digits)
    (λ a b c. h ((ltb-true _ _ a, digits_model.to digits b), ltb-true _ _ c))

pub parsed_number : {E : Type 0} (bits : ℕ) (text : List ℕ) (r : Result ℕ E) → ParsesUnsigned bits 10 text r
    → result_ok r ≡ number_below (2 ^ bits) text
unfolding number_below
parsed_number bits text (Ok n) h = rw h.1 (is_below (2 ^ bits) (without_leading_plus text) h.0.0 h.0.1)
parsed_number bits text (Err e) h = is_not_below (2 ^ bits) (without_leading_plus text) h
