-- Texts of at most sixteen hexadecimal digits.
use Rattle.std.proofs.Common.{
  ◌≡◌,
  ◌≢◌,
  ℕ,
  ◌+◌,
  ◌*◌,
  ◌<◌,
  ◌≤◌,
  ◌^◌,
  ◌&&◌,
  ◌∙◌,
  Bool,
  true,
  false,
  List,
  [],
  ◌∷◌,
  length,
  drop,
  drop-cons,
  get_or,
  suc,
  Option,
  Some,
  None,
  nat_lt,
  nat_le,
  if◌then◌else◌,
  refl,
  sym,
  ap,
  subst,
  arith,
  SomeIff,
  lit<,
}
use Rattle.std.specs.Char.{digit_value}
use Rattle.framehop_walk.specs.Fields.{all_digits, hexadecimal}
use Rattle.std.specs.Str.Parse.{AllDigits, IsNumeral, digits_value, digits_value_after}
use Rattle.std.proofs.Math.Nat.{pow-le-pow_right, pow-succ'}
use Rattle.std.proofs.lemmas.List.{drop_all}
use Rattle.std.proofs.lemmas.Bool.{and_parts, and_from, ltb-true, leb-true, lt-ltb, le-leb}

-- the number that the first `i` of the digits write, if they are digits
pub record SoFar (digits : List ℕ) (i number : ℕ) : Type 0 where
  pub same : digits_value_after 16 number (drop i digits) ≡ digits_value 16 digits
  pub back : AllDigits 16 (drop i digits) → AllDigits 16 digits
  pub on : AllDigits 16 digits → AllDigits 16 (drop i digits)
  pub below : number < 16 ^ i

pub none-read : (digits : List ℕ) → SoFar digits 0 0
none-read digits = record { same = refl; back = λ d. d; on = λ d. d; below = lit< tt }

module _ (digits : List ℕ) (i number : ℕ) (read : SoFar digits i number) where
  -- one digit more fits 64 bits
  pub one-more-fits : (digit : ℕ) → i < 16 → digit < 16 → number * 16 + digit < 2 ^ 64
  one-more-fits digit short small =
      let few : i ≤ 15 = omega arith in
      let most : 16 ^ i ≤ 16 ^ 15 = pow-le-pow_right (lit< tt) few in
      omega (arith, read.below, most)

  module _ (within : i < length digits) where
    next : drop i digits ≡ get_or digits i 0 ∷ drop (i + 1) digits
    next = let e : i + 1 ≡ suc i = omega arith in rw e (drop-cons digits i 0 within)

    pub one-more : (more : ℕ) → digit_value (get_or digits i 0) < 16 → more ≡ number * 16 + digit_value (get_or digits i 0)
        → SoFar digits (i + 1) more
    one-more more small is =
        let k : i + 1 ≡ suc i = omega arith in
        let e : 16 ^ (i + 1) ≡ 16 * 16 ^ i = ap (λ n. 16 ^ n) k ∙ pow-succ' 16 i in
        record {
          same = ap (λ n. digits_value_after 16 n (drop (i + 1) digits)) is
              ∙ sym (ap (digits_value_after 16 number) next) ∙ read.same;
          back = λ d. read.back (subst (AllDigits 16) (sym next) (small, d));
          on = λ d. (subst (AllDigits 16) next (read.on d)).1;
          below = omega (arith, read.below, is, e);
        }

    pub no-digit : (digit_value (get_or digits i 0) < 16 → ⊥) → IsNumeral 16 digits × (length digits ≤ 16) → ⊥
    no-digit other numeral = other (subst (AllDigits 16) next (read.on numeral.0.1)).0

  pub all-read : length digits ≤ i → length digits ≢ 0 → length digits ≤ 16
      → (IsNumeral 16 digits × (length digits ≤ 16)) × (number ≡ digits_value 16 digits)
  all-read past some short =
      let end : drop i digits ≡ [] = drop_all i digits past in (
        ((omega arith, read.back (subst (AllDigits 16) (sym end) tt)), short),
        sym (ap (digits_value_after 16 number) end) ∙ read.same,
      )

all_digits-AllDigits : (digits : List ℕ) → all_digits digits ≡ true → AllDigits 16 digits
all_digits-AllDigits [] h = tt
all_digits-AllDigits (c ∷ cs) h =
    let both = and_parts (nat_lt (digit_value c) 16) (all_digits cs) h in
    (ltb-true (digit_value c) 16 both.0, all_digits-AllDigits cs both.1)

AllDigits-all_digits : (digits : List ℕ) → AllDigits 16 digits → all_digits digits ≡ true
AllDigits-all_digits [] h = refl
AllDigits-all_digits (c ∷ cs) h =
    and_from (nat_lt (digit_value c) 16) (all_digits cs) (lt-ltb (digit_value c) 16 h.0) (AllDigits-all_digits cs h.1)

chosen : (b : Bool) (P : Type 0) (number : ℕ) (found : Option ℕ) → (b ≡ true → P) → (P → b ≡ true) → SomeIff found P number
    → found ≡ (if b then Some number else None)
chosen true P number (Some n) to from h = ap (λ k. Some k) h.1
chosen true P number None to from h = absurd (h (to refl))
chosen false P number (Some n) to from h = let no : ⊥ = let e = from h.0 in cc in absurd no
chosen false P number None to from h = refl

-- the number of a text of digits is its one value
pub hexadecimal-is : (digits : List ℕ) (found : Option ℕ) → SomeIff found (IsNumeral 16 digits × (length digits ≤ 16)) (digits_value 16 digits)
    → found ≡ hexadecimal digits
unfolding hexadecimal
hexadecimal-is digits found h =
    let some = nat_lt 0 (length digits) in let short = nat_le (length digits) 16 in
    chosen ((some && short) && all_digits digits) (IsNumeral 16 digits × (length digits ≤ 16)) (digits_value 16 digits) found
    (λ e. let a = and_parts (some && short) (all_digits digits) e in let b = and_parts some short a.0 in
    ((ltb-true 0 (length digits) b.0, all_digits-AllDigits digits a.1), leb-true (length digits) 16 b.1))
    (λ p. and_from (some && short) (all_digits digits)
    (and_from some short (lt-ltb 0 (length digits) p.0.0) (le-leb (length digits) 16 p.1)) (AllDigits-all_digits digits p.0.1))
    h
