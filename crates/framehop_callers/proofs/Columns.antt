-- Setting one column after another.
use Rattle.std.proofs.Common.{◌≡◌, ◌≢◌, ℕ, ◌<◌, ◌+◌, true, List, length, Option, Some, None, refl, ap, sym, ◌∙◌, arith, inl, inr, ◌==◌}
use Rattle.std.proofs.lemmas.Bool.{cases_Bool}
use Rattle.std.proofs.lemmas.Bool.Decides.{nat_tests}
use Rattle.std.proofs.lemmas.List.{get_or-set_same, get_or-set_other, length-set}
use Rattle.std.proofs.lemmas.Option.{unwrap_or-slice_get}
use Rattle.std.specs.Prelude.{slice_get, slice_set, slice_index_or, nat_lt, unwrap_or}
use Rattle.framehop_callers.specs.RegisterFile.{in_column, word_of, with_word}

in-unwrap : (o : Option (Option ℕ)) → in_column o ≡ unwrap_or o None
in-unwrap (Some word) = refl
in-unwrap None = refl

word-is : (words : List (Option ℕ)) (k : ℕ) → word_of words (record { 0 = k }) ≡ slice_index_or words k None
word-is words k = in-unwrap (slice_get words k) ∙ unwrap_or-slice_get words k None

has-column : (k : ℕ) → k < 33 → nat_lt k 33 ≡ true
has-column k below = grind (arith, nat_tests)

pub is-set : (words : List (Option ℕ)) (k : ℕ) (word : Option ℕ) → k < 33
    → with_word words (record { 0 = k }) word ≡ slice_set words k word
is-set words k word below = rw (has-column k below) refl

pub set-here : (words : List (Option ℕ)) (k : ℕ) (word : Option ℕ) → length words ≡ 33 → k < 33
    → word_of (with_word words (record { 0 = k }) word) (record { 0 = k }) ≡ word
set-here words k word long below =
    ap (λ set. word_of set (record { 0 = k })) (is-set words k word below) ∙ word-is (slice_set words k word) k
    ∙ get_or-set_same words k word None (omega arith)

pub set-elsewhere : (words : List (Option ℕ)) (k j : ℕ) (word : Option ℕ) → k < 33 → j ≢ k
    → word_of (with_word words (record { 0 = k }) word) (record { 0 = j }) ≡ word_of words (record { 0 = j })
set-elsewhere words k j word below apart =
    ap (λ set. word_of set (record { 0 = j })) (is-set words k word below) ∙ word-is (slice_set words k word) j
    ∙ get_or-set_other words k j word None apart ∙ sym (word-is words j)

pub keeps-length : (words : List (Option ℕ)) (k : ℕ) (word : Option ℕ) → length words ≡ 33 → k < 33
    → length (with_word words (record { 0 = k }) word) ≡ 33
keeps-length words k word long below = ap length (is-set words k word below) ∙ length-set words k word ∙ long

-- the columns before one have their values
abbrev pub HasBefore : (ℕ → Option ℕ) → ℕ → List (Option ℕ) → Type 0
HasBefore values end words = (k : ℕ) → k < end → word_of words (record { 0 = k }) ≡ values k

pub one_more : (values : ℕ → Option ℕ) (words : List (Option ℕ)) (k : ℕ) (word : Option ℕ) → length words ≡ 33
    → k < 33 → word ≡ values k → HasBefore values k words
    → HasBefore values (k + 1) (with_word words (record { 0 = k }) word)
one_more values words k word long below is before j less =
    elim (cases_Bool (j == k)) as (λ _. word_of (with_word words (record { 0 = k }) word) (record { 0 = j }) ≡ values j) [
      | inl here ↦
          let same : j ≡ k = grind (arith, nat_tests) in
          ap (λ i. word_of (with_word words (record { 0 = k }) word) (record { 0 = i })) same
          ∙ set-here words k word long below ∙ is ∙ ap values (sym same)
      | inr elsewhere ↦
          let apart : j ≢ k = λ same. grind (arith, nat_tests) in
          set-elsewhere words k j word below apart ∙ before j (omega arith)
    ]
