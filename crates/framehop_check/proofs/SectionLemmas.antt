-- The nearest section of sorted ones, and padding.
use Rattle.std.proofs.Common.{◌≡◌, ℕ, zero, suc, ◌+◌, ◌<◌, ◌≤◌, Bool, true, false, List, [], ◌∷◌, length, Option, Some, None, nat_le, if◌then◌else◌, refl, ap, ◌∙◌, arith}
use Rattle.std.specs.List.{slice_index_or}
use Rattle.std.specs.List.Sorted.{IsNonDecreasingBy}
use Rattle.std.proofs.lemmas.Bool.{le-leb, lt-leb}
use Rattle.framehop_code.specs.declared.effect.Effect.{Effect}
use Rattle.framehop_check.specs.declared.sections.CodeSection.{CodeSection}
use Rattle.framehop_check.specs.Sections.{address_of, later_of, nearest_of, padding_at, padding_from}

-- each section begins above the address
pub nearest_of-none : (sections : List CodeSection) (address : ℕ)
    → ((k : ℕ) (d : CodeSection) → k < length sections → nat_le (address_of (slice_index_or sections k d)) address ≡ false)
    → nearest_of sections address ≡ None
unfolding nearest_of
nearest_of-none [] address above = refl
nearest_of-none (s ∷ sections) address above =
    ap (λ (b : Bool). if b then later_of s (nearest_of sections address) else nearest_of sections address) (above 0 s (omega arith))
    ∙ nearest_of-none sections address (λ k d h. above (suc k) d (omega (arith, h)))

-- the sections up to a place begin at or below the address, and those after it above
pub nearest_of-at : (sections : List CodeSection) (address place : ℕ) (e : CodeSection) → IsNonDecreasingBy address_of sections
    → place < length sections → ((k : ℕ) (d : CodeSection) → k ≤ place
    → nat_le (address_of (slice_index_or sections k d)) address ≡ true)
    → ((k : ℕ) (d : CodeSection) → place < k → k < length sections
    → nat_le (address_of (slice_index_or sections k d)) address ≡ false)
    → nearest_of sections address ≡ Some (slice_index_or sections place e)
unfolding nearest_of
nearest_of-at [] address place e sorted within below above = absurd (omega (arith, within))
nearest_of-at (s ∷ sections) address zero e sorted within below above =
    ap (λ (b : Bool). if b then later_of s (nearest_of sections address) else nearest_of sections address) (below 0 s (omega arith))
    ∙ ap (later_of s) (nearest_of-none sections address (λ k d h. above (suc k) d (omega arith) (omega (arith, h))))
nearest_of-at (s ∷ sections) address (suc place) e sorted within below above =
    let t = slice_index_or sections place e in
    ap (λ (b : Bool). if b then later_of s (nearest_of sections address) else nearest_of sections address) (below 0 s (omega arith))
    ∙ ap (later_of s) (nearest_of-at sections address place e
    (λ i j d h within_j. sorted (suc i) (suc j) d (omega (arith, h)) (omega (arith, within_j)))
    (omega (arith, within)) (λ k d h. below (suc k) d (omega (arith, h)))
    (λ k d h within_k. above (suc k) d (omega (arith, h)) (omega (arith, within_k))))
    ∙ ap (λ (b : Bool). if b then Some t else Some s) (le-leb (address_of s) (address_of t) (sorted 0 (suc place) e (omega arith) within))

module _ (instruction : List ℕ → ℕ → Option Effect) (code : List ℕ) where
  pub padding-end : (n at : ℕ) → length code ≤ at → padding_from instruction code n at ≡ at
  padding-end zero at past = refl
  padding-end (suc n) at past = rw (le-leb (length code) at past) refl

  pub padding-none : (n at : ℕ) → length code ≤ n + at → at < length code → padding_at instruction code at ≡ None
      → padding_from instruction code n at ≡ at
  padding-none zero at enough within none = absurd (omega (arith, enough, within))
  padding-none (suc n) at enough within none = rw (lt-leb (length code) at within, none) refl

  -- one instruction more, and then those that follow it
  pub padding-follows : (n at size : ℕ) → length code ≤ n + at → at < length code → padding_at instruction code at ≡ Some size → 0 < size
      → (fewer : ℕ) × (length code ≤ fewer + (at + size)) × (padding_from instruction code n at ≡ padding_from instruction code fewer (at + size))
  padding-follows zero at size enough within some more = absurd (omega (arith, enough, within))
  padding-follows (suc n) at size enough within some more =
      (n, omega (arith, enough, more), rw (lt-leb (length code) at within, some) refl)
