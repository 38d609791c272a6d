-- Counts, lines and texts, as they are read.
use Rattle.std.proofs.Common.{◌≡◌, ◌≢◌, ℕ, Bool, true, false, cond, List, [], ◌∷◌, ◌+◌, ◌-◌, ◌*◌, ◌^◌, ◌<◌, ◌≤◌, length, get_or, take, drop, ◌++◌, append_assoc, ⊎_elim, Result, Ok, Err, Option, Some, None, refl, ap, sym, ◌∙◌, arith}
use Rattle.std.specs.Prelude.{nat_lt, ◌&&◌, ◌==◌, not}
use Rattle.std.specs.Char.{is_ascii_digit, digit_value}
use Rattle.std.specs.Int.{IsInRange}
use Rattle.std.specs.Str.{all_ascii_digits}
use Rattle.std.specs.Str.Parse.{digits_value_after}
use Rattle.std.specs.List.{list_any, suffix_len, before_last, after_last, slice_split, position_or_len}
use Rattle.std.proofs.lemmas.Grind.{common_steps}
use Rattle.std.proofs.lemmas.Bool.{and_right, le-ltb, lt-ltb, cases_lt}
use Rattle.std.proofs.lemmas.Bool.Decides.{nat_tests}
use Rattle.std.proofs.lemmas.List.{get_or_default, append-nil, length-take, length-drop, take_all, drop_all}
use Rattle.std.proofs.lemmas.List.Splits.{slice_split_first, slice_split_none}
use Rattle.std.proofs.lemmas.List.Sums.{suffix_len_is, fails_before_first}
use Rattle.std.proofs.lemmas.List.Folds.{list_any_none, list_any_at}
use Rattle.std.proofs.lemmas.Str.{digit_value_digit}
use Rattle.framehop_folded.specs.Text.{Counted, count_of, IsLastBlank, line_with, read_line, before, with_line, read_lines}
use Rattle.framehop_folded.specs.declared.error.TextError.{TextError}

-- ---- counts

-- what digits count that follow those of n
abbrev pub count_from : ℕ → List ℕ → Option ℕ
count_from n digits = cond (all_ascii_digits digits && nat_lt (digits_value_after 10 n digits) (2 ^ 64))
    (Some (digits_value_after 10 n digits)) None

value_rises : (n : ℕ) (digits : List ℕ) → n ≤ digits_value_after 10 n digits
value_rises n [] = omega arith
value_rises n (digit ∷ digits) = let later = value_rises (n * 10 + digit_value digit) digits in omega arith

pub count_from-large : (n : ℕ) (digits : List ℕ) → 2 ^ 64 ≤ n → count_from n digits ≡ None
count_from-large n digits large =
    let over : 2 ^ 64 ≤ digits_value_after 10 n digits = omega (arith, value_rises n digits) in
    let test : nat_lt (digits_value_after 10 n digits) (2 ^ 64) ≡ false = le-ltb (digits_value_after 10 n digits) (2 ^ 64) over in
    let both : (all_ascii_digits digits && nat_lt (digits_value_after 10 n digits) (2 ^ 64)) ≡ false = and_right (all_ascii_digits digits) (nat_lt (digits_value_after 10 n digits) (2 ^ 64)) test in
    rw both refl

pub count_from-digit : (n digit : ℕ) (digits : List ℕ) → is_ascii_digit digit ≡ true
    → count_from n (digit ∷ digits) ≡ count_from (n * 10 + (digit - 48)) digits
count_from-digit n digit digits is =
    let in_range : IsInRange 48 57 digit = grind (arith, nat_tests) in
    let value : digit_value digit ≡ digit - 48 = omega (arith, digit_value_digit digit in_range) in
    rw (is, value) refl

pub count_from-other : (n digit : ℕ) (digits : List ℕ) → is_ascii_digit digit ≡ false → count_from n (digit ∷ digits) ≡ None
count_from-other n digit digits is = rw is refl

pub count_from-end : (n : ℕ) → n < 2 ^ 64 → count_from n [] ≡ Some n
count_from-end n small = let test : nat_lt n (2 ^ 64) ≡ true = lt-ltb n (2 ^ 64) small in rw test refl

pub count_of-from : (digits : List ℕ) → 0 < length digits → count_of digits ≡ count_from 0 digits
count_of-from digits some = let test : nat_lt 0 (length digits) ≡ true = lt-ltb 0 (length digits) some in rw test refl

-- ---- the last blank

abbrev is_blank : ℕ → Bool
is_blank byte = byte == 32

other : (x : ℕ) → x ≢ 32 → not (x == 32) ≡ true
other x ne = grind (arith, common_steps)

blank : (x : ℕ) → x ≡ 32 → not (x == 32) ≡ false
blank x e = rw e refl

after_size : (line : List ℕ) (at : ℕ) → IsLastBlank line at → suffix_len (λ byte. not (byte == 32)) line ≡ length line - (at + 1)
after_size line at (fits, is, last) =
    suffix_len_is (λ byte. not (byte == 32)) line (at + 1) 0 (omega arith)
    (λ k from below. other (get_or line k 0) (last k (omega arith) below))
    (λ above. blank (get_or line (at + 1 - 1) 0) (ap (λ n. get_or line n 0) (omega arith) ∙ is))

pub stack_at : (line : List ℕ) (at : ℕ) → IsLastBlank line at → before_last (λ byte. byte == 32) line ≡ take at line
stack_at line at (fits, is, last) =
    ap (λ n. take (length line - n - 1) line) (after_size line at (fits, is, last)) ∙ ap (λ n. take n line) (omega arith)

pub digits_at : (line : List ℕ) (at : ℕ) → IsLastBlank line at → after_last (λ byte. byte == 32) line ≡ drop (at + 1) line
digits_at line at (fits, is, last) =
    ap (λ n. drop (length line - n) line) (after_size line at (fits, is, last)) ∙ ap (λ n. drop n line) (omega arith)

pub has_blank : (line : List ℕ) (at : ℕ) → IsLastBlank line at → list_any (λ byte. byte == 32) line ≡ true
has_blank line at (fits, is, last) = list_any_at (λ byte. byte == 32) line at 0 fits (rw is refl)

not_blank : (x : ℕ) → x ≢ 32 → (x == 32) ≡ false
not_blank x ne = grind (arith, common_steps)

pub no_blank : (line : List ℕ) → ((k : ℕ) → k < length line → get_or line k 0 ≢ 32) → list_any (λ byte. byte == 32) line ≡ false
no_blank line none = list_any_none (λ byte. byte == 32) line
    (λ k d below. not_blank (get_or line k d) (λ e. none k below (get_or_default line k 0 d below ∙ e)))

pub line_at : (offset : ℕ) (line : List ℕ) (at : ℕ) → IsLastBlank line at
    → read_line offset line ≡ line_with offset (take at line) (count_of (drop (at + 1) line))
line_at offset line at is =
    let has = has_blank line at is in
    let stack = stack_at line at is in
    let digits = digits_at line at is in
    rw (has, stack, digits) refl

-- ---- the lines of a text

abbrev pub split_lines : List ℕ → List (List ℕ)
split_lines text = slice_split (λ byte. byte == 10) text

abbrev pub end_of : List ℕ → ℕ
end_of text = position_or_len (λ byte. byte == 10) text

-- lines that were read, before what is left
abbrev pub after : List Counted → Result (List Counted) TextError → Result (List Counted) TextError
after lines (Err refusal) = Err refusal
after lines (Ok others) = Ok (lines ++ others)

pub after-more : (lines : List Counted) (line : Counted) (others : Result (List Counted) TextError)
    → after lines (before (Ok line) others) ≡ after (lines ++ line ∷ []) others
after-more lines line (Err refusal) = refl
after-more lines line (Ok others) = ap (λ all. Ok all) (sym (append_assoc lines (line ∷ []) others))

pub after-all : (lines : List Counted) → after lines (Ok []) ≡ Ok lines
after-all lines = ap (λ all. Ok all) (append-nil lines)

step_at : (offset : ℕ) (text : List ℕ) → end_of text < length text
    → read_lines offset (split_lines text)
    ≡ with_line offset (take (end_of text) text) (read_lines (offset + end_of text + 1) (split_lines (drop (end_of text + 1) text)))
step_at offset text within =
    let parts = slice_split_first (λ byte. byte == 10) text 0 within in
    let size : length (take (end_of text) text) ≡ end_of text = simp length-take (omega arith) in
    ap (λ lines. read_lines offset lines) parts
    ∙ ap (λ n. with_line offset (take (end_of text) text) (read_lines (offset + n + 1) (split_lines (drop (end_of text + 1) text)))) size

step_end : (offset other : ℕ) (text : List ℕ) → length text ≤ end_of text
    → read_lines offset (split_lines text) ≡ with_line offset (take (end_of text) text) (read_lines other (split_lines (drop (end_of text + 1) text)))
step_end offset other text past =
    let part = slice_split_none (λ byte. byte == 10) text (λ k d below. fails_before_first (λ byte. byte == 10) text k d (omega (arith, below, past))) in
    let whole : take (end_of text) text ≡ text = take_all (end_of text) text past in
    let none : drop (end_of text + 1) text ≡ [] = drop_all (end_of text + 1) text (omega arith) in
    rw (part, whole, none) refl

-- what is left of a text is its first line and what follows that
pub step : (whole text : List ℕ) → length text ≤ length whole
    → read_lines (length whole - length text) (split_lines text)
    ≡ with_line (length whole - length text) (take (end_of text) text)
    (read_lines (length whole - length (drop (end_of text + 1) text)) (split_lines (drop (end_of text + 1) text)))
step whole text fits =
    ⊎_elim (λ (within : end_of text < length text).
    let left : length (drop (end_of text + 1) text) ≡ length text - (end_of text + 1) = length-drop (end_of text + 1) text in
    let next : length whole - length text + end_of text + 1 ≡ length whole - length (drop (end_of text + 1) text) = omega arith in
    step_at (length whole - length text) text within
    ∙ ap (λ n. with_line (length whole - length text) (take (end_of text) text) (read_lines n (split_lines (drop (end_of text + 1) text)))) next)
    (λ (past : length text ≤ end_of text). step_end (length whole - length text) (length whole - length (drop (end_of text + 1) text)) text past)
    (cases_lt (end_of text) (length text))

-- ---- one turn of reading

abbrev pub left : List ℕ → List ℕ → Result (List Counted) TextError
left whole text = read_lines (length whole - length text) (split_lines text)

line_taken : (lines : List Counted) (offset : ℕ) (line : List ℕ) (others : Result (List Counted) TextError) (made : Counted)
    → 0 < length line → read_line offset line ≡ Ok made → after lines (with_line offset line others) ≡ after (lines ++ made ∷ []) others
line_taken lines offset line others made some is =
    let test : (length line == 0) ≡ false = grind (arith, nat_tests) in
    rw (test, is) (after-more lines made others)

line_refused : (lines : List Counted) (offset : ℕ) (line : List ℕ) (others : Result (List Counted) TextError) (refusal : TextError)
    → 0 < length line → read_line offset line ≡ Err refusal → after lines (with_line offset line others) ≡ Err refusal
line_refused lines offset line others refusal some is =
    let test : (length line == 0) ≡ false = grind (arith, nat_tests) in
    rw (test, is) refl

module _ (whole text rest : List ℕ) (end : ℕ) (lines : List Counted)
    (fits : length text ≤ length whole) (at_end : end ≡ end_of text) (within : end ≤ length text) (is_rest : rest ≡ drop (end + 1) text) where
  first_line : after lines (left whole text) ≡ after lines (with_line (length whole - length text) (take end text) (left whole rest))
  first_line =
      ap (λ all. after lines all) (step whole text fits)
      ∙ ap (λ n. after lines (with_line (length whole - length text) (take n text) (left whole (drop (n + 1) text)))) (sym at_end)
      ∙ ap (λ others. after lines (with_line (length whole - length text) (take end text) (left whole others))) (sym is_rest)

  size : length (take end text) ≡ end
  size = simp length-take (omega arith)

  pub turn_taken : (made : Counted) → 0 < end → read_line (length whole - length text) (take end text) ≡ Ok made
      → after lines (left whole text) ≡ after (lines ++ made ∷ []) (left whole rest)
  turn_taken made some is =
      first_line ∙ line_taken lines (length whole - length text) (take end text) (left whole rest) made (omega (arith, size)) is

  pub turn_refused : (refusal : TextError) → 0 < end → read_line (length whole - length text) (take end text) ≡ Err refusal
      → after lines (left whole text) ≡ Err refusal
  turn_refused refusal some is =
      first_line ∙ line_refused lines (length whole - length text) (take end text) (left whole rest) refusal (omega (arith, size)) is

  pub turn_empty : end ≡ 0 → after lines (left whole text) ≡ after lines (left whole rest)
  turn_empty none =
      let test : (length (take end text) == 0) ≡ true = grind (arith, nat_tests, size) in
      first_line ∙ rw test refl
