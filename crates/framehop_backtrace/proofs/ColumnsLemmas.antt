-- A register file by the values of its columns.
use Rattle.std.proofs.Common.{◌≡◌, ℕ, zero, suc, ◌<◌, ◌+◌, List, ◌∷◌, length, drop, Option, Some, None, refl, ap, sym, ◌∙◌, arith, get_or, drop-cons}
use Rattle.std.proofs.lemmas.List.{drop_all}
use Rattle.std.proofs.lemmas.Option.{unwrap_or-slice_get}
use Rattle.std.specs.Prelude.{slice_get, unwrap_or}
use Rattle.framehop_callers.specs.RegisterFile.{in_column, word_of}
use Rattle.framehop_callers.specs.Caller.{HasColumns}
use Rattle.framehop_backtrace.specs.Columns.{columns_from, columns_by}

in-unwrap : (o : Option (Option ℕ)) → in_column o ≡ unwrap_or o None
in-unwrap (Some word) = refl
in-unwrap None = refl

word-is : (words : List (Option ℕ)) (at : ℕ) → word_of words (record { 0 = at }) ≡ get_or words at None
word-is words at = in-unwrap (slice_get words at) ∙ unwrap_or-slice_get words at None

from-place : (values : ℕ → Option ℕ) (words : List (Option ℕ)) (at n : ℕ) → at + n ≡ length words → length words ≡ 33
    → HasColumns values words → columns_from values at n ≡ drop at words
from-place values words at zero e long has = sym (drop_all at words (omega arith))
from-place values words at (suc n) e long has =
    let within : at < length words = omega arith in
    let next : suc at ≡ at + 1 = omega arith in
    ap (λ rest. values at ∷ rest) (from-place values words (at + 1) n (omega arith) long has)
    ∙ ap (λ value. value ∷ drop (at + 1) words) (sym (has at (omega arith)) ∙ word-is words at)
    ∙ ap (λ k. get_or words at None ∷ drop k words) (sym next)
    ∙ sym (drop-cons words at None within)

pub columns-are : (values : ℕ → Option ℕ) (words : List (Option ℕ)) → length words ≡ 33 → HasColumns values words
    → words ≡ columns_by values
unfolding columns_by
columns-are values words long has = sym (from-place values words 0 33 (sym long) long has)
