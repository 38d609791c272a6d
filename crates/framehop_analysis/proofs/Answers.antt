-- Answers that find at most one thing: from one fact to another, and to the clause of a public function.
use Rattle.std.proofs.Common.{◌≡◌, Option, Some, None, ◌↔◌, inl, inr, refl, sym, ◌∙◌, subst, IfSome, OnSome, MatchOption}
use Rattle.std.proofs.lemmas.Option.{same_Some}
use Rattle.framehop_analysis.specs.Answer.{IsOnly, FirstOf}

-- the answer is a value exactly where the value meets the fact
pub only-iff : {A : Type 0} (P : A → Type 0) (found : Option A) → IsOnly P found → (x : A) → (found ≡ Some x) ↔ P x
only-iff P None only x = (λ e. cc, λ p. absurd (only x p))
only-iff {A} P (Some y) only x =
    (λ e. (let same : y ≡ x = same_Some y x e in subst P same only.0), λ p. (let same : x ≡ y = only.1 x p in cc))

-- there is one answer to a fact
pub only-same : {A : Type 0} (P : A → Type 0) (result found : Option A) → ((x : A) → (result ≡ Some x) ↔ P x) → IsOnly P found → result ≡ found
only-same P None None exact only = refl
only-same P (Some x) None exact only = absurd (only x ((exact x).0 refl))
only-same P result (Some y) exact only = (exact y).1 only.0

-- what each value that meets the fact has, the answer has
pub only-some : {A : Type 0} (P Q : A → Type 0) (found : Option A) → IsOnly P found → ((x : A) → P x → Q x) → IfSome found Q
only-some P Q None only to = tt
only-some P Q (Some y) only to = to y only.0

-- the first answer where there is one, else another
pub first-exact : {A : Type 0} (P Q : A → Type 0) (first found : Option A) (Other : Type 0)
    → ((x : A) → (first ≡ Some x) ↔ P x) → MatchOption first Other (λ x. found ≡ Some x)
    → (Other → (x : A) → (found ≡ Some x) ↔ Q x) → (x : A) → (found ≡ Some x) ↔ FirstOf P Q x
first-exact {A} P Q None found Other exact other then x =
    (λ e. inr (λ y p. (let none = (exact y).1 p in cc), (then other x).0 e), λ f. from f) where
      from : FirstOf P Q x → found ≡ Some x
      from (inl p) = (let none = (exact x).1 p in cc)
      from (inr q) = (then other x).1 q.1
first-exact {A} P Q (Some y) found Other exact same then x =
    (λ e. inl ((exact x).0 (sym same ∙ e)), λ f. from f) where
      from : FirstOf P Q x → found ≡ Some x
      from (inl p) = same ∙ (exact x).1 p
      from (inr q) = absurd (q.0 y ((exact y).0 refl))

pub only-on : {A : Type 0} (P : A → Type 0) (Q : Type 0) (found : Option A) → IsOnly P found → ((x : A) → P x → Q) → OnSome found Q
only-on P Q None only to = tt
only-on P Q (Some y) only to = to y only.0
