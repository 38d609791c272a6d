-- The ids of events, and the first event that has one.
use Rattle.std.proofs.Common.{
  ◌≡◌,
  ℕ,
  suc,
  ◌+◌,
  ◌-◌,
  ◌/◌,
  ◌<◌,
  ◌≤◌,
  Bool,
  true,
  false,
  not,
  cond,
  ◌||◌,
  ◌&&◌,
  ◌==◌,
  nat_le,
  List,
  ◌∷◌,
  map,
  length,
  Option,
  Some,
  None,
  inl,
  inr,
  refl,
  ap,
  sym,
  ◌∙◌,
  arith,
}
use Rattle.std.specs.List.{list_any, list_all}
use Rattle.std.proofs.lemmas.Bool.Decides.{nat_tests, eqb_tells}
use Rattle.std.proofs.lemmas.List.{length-map}
use Rattle.std.proofs.lemmas.List.Folds.{list_all-map}
use Rattle.framehop_bytes.specs.Bytes.{le8}
use Rattle.framehop_recording.specs.Bytes.{offsets, word_at, has_bit}
use Rattle.framehop_recording.specs.Attributes.{attribute_view}
use Rattle.framehop_recording.specs.Events.{id_fields, is_like, are_told_apart}
use Rattle.framehop_recording.specs.declared.attributes.Attribute.{Attribute}

-- a word that was read is there
some-word : (b : Bool) (word id : ℕ) (P : Type 0) → (b ≡ true → P) → cond b (Some word) None ≡ Some id → P × (word ≡ id)
some-word true word id P there e = (there refl, cc)
some-word false word id P there e = cc

no-word : (b : Bool) (word : ℕ) (P : Type 0) → (b ≡ false → P) → cond b (Some word) None ≡ None → P
no-word true word P there e = cc
no-word false word P there e = there refl

pub word-there : (bytes : List ℕ) (at id : ℕ) → word_at bytes at ≡ Some id → (at + 8 ≤ length bytes) × (le8 bytes at ≡ id)
word-there bytes at id e = some-word (nat_le (at + 8) (length bytes)) (le8 bytes at) id (at + 8 ≤ length bytes) (λ t. grind (arith, nat_tests)) e

pub word-not-there : (bytes : List ℕ) (at : ℕ) → word_at bytes at ≡ None → length bytes < at + 8
word-not-there bytes at e = no-word (nat_le (at + 8) (length bytes)) (le8 bytes at) (length bytes < at + 8) (λ t. grind (arith, nat_tests)) e

one-less : (n at : ℕ) → at + 8 ≤ n → (n - at) / 8 ≡ suc ((n - (at + 8)) / 8)
one-less n at h = omega arith

none-left : (n at : ℕ) → n < at + 8 → (n - at) / 8 ≡ 0
none-left n at h = omega arith

either : {A : Type 0} (test rest : Bool) (x y : A) → cond (test || rest) x y ≡ cond rest x (cond test x y)
either true true x y = refl
either true false x y = refl
either false rest x y = refl

-- one more id is entered
pub id-entered : (test : ℕ → Bool) (at n : ℕ) (event before after all : Option ℕ) → at + 8 ≤ n
    → cond (list_any test (offsets at 8 ((n - at) / 8))) event before ≡ all → after ≡ cond (test at) event before
    → cond (list_any test (offsets (at + 8) 8 ((n - (at + 8)) / 8))) event after ≡ all
id-entered test at n event before after all within so_far put =
    let rest = (n - (at + 8)) / 8 in
    ap (λ value. cond (list_any test (offsets (at + 8) 8 rest)) event value) put
    ∙ sym (either (test at) (list_any test (offsets (at + 8) 8 rest)) event before)
    ∙ sym (ap (λ k. cond (list_any test (offsets at 8 k)) event before) (one-less n at within))
    ∙ so_far

-- all ids are entered
pub ids-entered : (test : ℕ → Bool) (at n : ℕ) (event now all : Option ℕ) → n < at + 8 → cond (list_any test (offsets at 8 ((n - at) / 8))) event now ≡ all → now ≡ all
ids-entered test at n event now all past so_far =
    sym (ap (λ k. cond (list_any test (offsets at 8 k)) event now) (none-left n at past)) ∙ so_far

pub not-zero : (n : ℕ) → (n ≡ 0 → ⊥) → not (n == 0) ≡ true
not-zero n h = elim (eqb_tells n 0) [ inl same ↦ absurd (h same.1) | inr other ↦ ap not other.0 ]

-- Every other event is like the first.
pub told-apart : (attributes : List Attribute) (first : Attribute) (others : List Attribute) (alike : Bool)
    → attributes ≡ first ∷ others → (length others == 0) ≡ false
    → has_bit (id_fields (attribute_view first)) 0x10040 ≡ true
    → alike ≡ list_all (λ other. is_like (attribute_view first) (attribute_view other)) others
    → alike ≡ are_told_apart (map attribute_view attributes)
unfolding are_told_apart
told-apart attributes first others alike is some ids all =
    let a = attribute_view first in
    let rest = map attribute_view others in
    all ∙ sym (list_all-map (is_like a) attribute_view others)
    ∙ sym (ap (λ b. b || (has_bit (id_fields a) 0x10040 && list_all (is_like a) rest)) (ap (λ n. n == 0) (length-map others attribute_view) ∙ some)
    ∙ ap (λ b. b && list_all (is_like a) rest) ids)
    ∙ ap (λ list. are_told_apart (map attribute_view list)) (sym is)
