-- Answers that find at most one thing: from one fact to another, and the facts that they are decided by.
use Rattle.std.proofs.Common.{◌≡◌, ◌⊎◌, inl, inr, ℕ, ◌<◌, ◌≤◌, Bool, true, false, nat_eq, Option, Some, None, ap, subst, ◌∙◌, refl, arith}
use Rattle.std.proofs.lemmas.Bool.{cases_lt}
use Rattle.std.proofs.lemmas.Bool.Decides.{nat_tests}
use Rattle.std.proofs.lemmas.Option.{same_Some}
use Rattle.framehop_analysis.specs.Answer.{IsOnly, Decided, FirstOf}

-- two facts that the same values meet
pub only-map : {A : Type 0} (P Q : A → Type 0) (found : Option A) → ((x : A) → P x → Q x) → ((x : A) → Q x → P x)
    → IsOnly P found → IsOnly Q found
only-map P Q None to from only = λ x q. only x (from x q)
only-map P Q (Some y) to from only = (to y only.0, λ x q. only.1 x (from x q))

-- the first answer where there is one, else the second
pub first-decided : {A : Type 0} (P Q : A → Type 0) → Decided P → Decided Q → Decided (FirstOf P Q)
first-decided {A} P Q (Some y, only) second = (Some y, (inl only.0, λ x first. of x first)) where
  of : (x : A) → FirstOf P Q x → x ≡ y
  of x (inl p) = only.1 x p
  of x (inr q) = absurd (q.0 y only.0)
first-decided {A} P Q (None, none) (found, only) =
    (found, only-map Q (FirstOf P Q) found (λ x q. inr (none, q)) (λ x first. of x first) only) where
      of : (x : A) → FirstOf P Q x → Q x
      of x (inl p) = absurd (none x p)
      of x (inr q) = q.1

-- what the values of the first fact and those of the second are for, the answer is for one or the other
pub means-first : {A : Type 0} (P Q : A → Type 0) {P' Q' : A → Type 0} (found : Option A) → IsOnly (FirstOf P Q) found
    → ((x : A) → P x → P' x) → ((x : A) → Q x → Q' x) → (x : A) → found ≡ Some x → P' x ⊎ Q' x
means-first P Q None only first second x is = cc
means-first {A} P Q {P'} {Q'} (Some y) only first second x is =
    subst (λ x. P' x ⊎ Q' x) (same_Some y x is) (of only.0) where
      of : FirstOf P Q y → P' y ⊎ Q' y
      of (inl p) = inl (first y p)
      of (inr q) = inr (second y q.1)

-- ---- facts

-- a fact holds, or it does not
abbrev pub Decidable : Type 0 → Type 0
Decidable P = P ⊎ (P → ⊥)

pub decidable-map : {P Q : Type 0} → (P → Q) → (Q → P) → Decidable P → Decidable Q
decidable-map to from (inl p) = inl (to p)
decidable-map to from (inr none) = inr (λ q. none (from q))

pub decidable-and : {P Q : Type 0} → Decidable P → Decidable Q → Decidable (P × Q)
decidable-and (inl p) (inl q) = inl (p, q)
decidable-and (inl p) (inr none) = inr (λ both. none both.1)
decidable-and (inr none) q = inr (λ both. none both.0)

pub decidable-or : {P Q : Type 0} → Decidable P → Decidable Q → Decidable (P ⊎ Q)
decidable-or (inl p) q = inl (inl p)
decidable-or (inr none) (inl q) = inl (inr q)
decidable-or {P} {Q} (inr none) (inr no_other) = inr (λ either. neither either) where
  neither : P ⊎ Q → ⊥
  neither (inl p) = none p
  neither (inr q) = no_other q

pub true-decidable : (b : Bool) → Decidable (b ≡ true)
true-decidable true = inl refl
true-decidable false = inr (λ e. cc)

pub le-decidable : (m n : ℕ) → Decidable (m ≤ n)
le-decidable m n = elim (cases_lt n m) [
  | inl above ↦ inr (λ le. omega arith)
  | inr le ↦ inl le
]

pub lt-decidable : (m n : ℕ) → Decidable (m < n)
lt-decidable m n = elim (cases_lt m n) [
  | inl lt ↦ inl lt
  | inr above ↦ inr (λ lt. omega arith)
]

pub eq-decidable : (m n : ℕ) → Decidable (m ≡ n)
eq-decidable m n =
    decidable-map (λ test. grind (arith, nat_tests)) (λ e. grind (arith, nat_tests)) (true-decidable (nat_eq m n))

-- there is a value, and it is this one
pub is-decidable : (found : Option ℕ) (value : ℕ) → Decidable (found ≡ Some value)
is-decidable None value = inr (λ e. cc)
is-decidable (Some x) value = decidable-map (λ e. ap Some e) (same_Some x value) (eq-decidable x value)

-- there is a value, and it passes a test
abbrev pub Passes : Option ℕ → (ℕ → Bool) → Type 0
Passes found test = (value : ℕ) × (found ≡ Some value) × (test value ≡ true)

pub passes-decidable : (found : Option ℕ) (test : ℕ → Bool) → Decidable (Passes found test)
passes-decidable None test = inr (λ passed. (let e = passed.1 in cc))
passes-decidable (Some x) test =
    decidable-map (λ e. (x, refl, e)) (λ passed. ap test (same_Some x passed.0 passed.1) ∙ passed.2)
    (true-decidable (test x))
