-- The registers of a row, one after another.
use Rattle.std.proofs.Common.{◌≡◌, ◌∙◌, ℕ, suc, ◌+◌, ◌-◌, ◌<◌, ◌≤◌, List, [], ◌++◌, refl, ap, sym, append_assoc, append-nil, arith}
use Rattle.framehop_cfi.specs.Row.{Row}
use Rattle.framehop_explain_cli.specs.RowText.{column_text, columns_text}

module _ (names : List (List ℕ)) (row : Row) where
  -- a text, and then the registers from a number on
  abbrev pub left : List ℕ → ℕ → List ℕ
  left text number = text ++ columns_text names row number (256 - number)

  one : (number count : ℕ) → columns_text names row number (suc count) ≡ column_text names row number ++ columns_text names row (number + 1) count
  unfolding columns_text
  one number count = refl

  none : (number : ℕ) → columns_text names row number 0 ≡ []
  unfolding columns_text
  none number = refl

  pub next : (text : List ℕ) (number : ℕ) → number < 256 → left (text ++ column_text names row number) (number + 1) ≡ left text number
  next text number within =
      let count : 256 - number ≡ suc (256 - (number + 1)) = omega arith in
      append_assoc text (column_text names row number) (columns_text names row (number + 1) (256 - (number + 1)))
      ∙ ap (λ others. text ++ others) (sym (one number (256 - (number + 1))))
      ∙ ap (λ n. text ++ columns_text names row number n) (sym count)

  pub end : (text : List ℕ) (number : ℕ) → 256 ≤ number → left text number ≡ text
  end text number past =
      let count : 256 - number ≡ 0 = omega arith in
      ap (λ n. text ++ columns_text names row number n) count ∙ ap (λ others. text ++ others) (none number) ∙ append-nil text
