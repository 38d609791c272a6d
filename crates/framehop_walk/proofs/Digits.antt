-- The hexadecimal digits of a number, and that they are text.
use Rattle.std.proofs.Common.{◌≡◌, ℕ, ◌^◌, ◌<◌, false, List, [], ◌∷◌, suc, zero, refl, arith, inl, inr, lit<, Result, Ok, Err, MatchResult}
use Rattle.std.specs.Char.{digit_value}
use Rattle.std.specs.Fmt.{digits_onto, digits}
use Rattle.std.specs.Result.{IsOk}
use Rattle.std.specs.Str.{IsAscii, IsUtf8}
use Rattle.std.specs.Str.Parse.{AllDigits}
use Rattle.std.proofs.lemmas.Bool.{cases_lt, cond_above}
use Rattle.std.proofs.lemmas.Fmt.{digits_is_IsNumeral}
use Rattle.std.proofs.lemmas.Str.{IsUtf8-from_ascii}

pub digits-none : (number : ℕ) → digits_onto 64 16 false number [] ≡ digits 16 false number
unfolding digits
digits-none number = refl

-- digits are text
digit-ascii : (c : ℕ) → digit_value c < 16 → c < 128
digit-ascii c small = elim (cases_lt c 123) [
  | inl below ↦ omega arith
  | inr above ↦
      let e : 36 ≡ digit_value c =
      cond_above c 48 _ _ _ (omega arith) (cond_above c 58 _ _ _ (omega arith) (cond_above c 65 _ _ _ (omega arith)
      (cond_above c 91 _ _ _ (omega arith) (cond_above c 97 _ _ _ (omega arith) (cond_above c 123 _ _ _ above refl))))) in
      omega (arith, small, e)
]

digits-ascii : (ds : List ℕ) → AllDigits 16 ds → IsAscii ds
digits-ascii [] all i = omega arith
digits-ascii (c ∷ cs) all zero = omega (arith, digit-ascii c all.0)
digits-ascii (c ∷ cs) all (suc i) = digits-ascii cs all.1 i

pub digits-text : (number : ℕ) → number < 2 ^ 64 → IsUtf8 (digits 16 false number)
digits-text number fits =
    let small : number < 16 ^ 64 = omega (arith, fits) in
    IsUtf8-from_ascii (digits 16 false number)
    (digits-ascii (digits 16 false number) (digits_is_IsNumeral 16 false (lit< tt) (lit< tt) number small).0.1)

-- what reads the bytes as text, where they are text
pub read-text : {T E : Type 0} (P : T → Type 0) (Q : E → Type 0) (IsText : Type 0) (result : Result T E) → IsText
    → MatchResult result P (λ e. ¬ IsText × Q e) → IsOk result
read-text P Q IsText (Ok text) is_text read = refl
read-text P Q IsText (Err error) is_text read = absurd (read.0 is_text)
