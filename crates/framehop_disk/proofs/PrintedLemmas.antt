-- A text that is printed part by part.
use Rattle.std.proofs.Common.{◌≡◌, ◌≤◌, ◌<◌, ◌+◌, ◌-◌, ℕ, List, [], ◌∷◌, ◌++◌, length, take, drop, get_or, true, false, refl, ap, sym, ◌∙◌, arith, get_or-drop, length-drop}
use Rattle.std.specs.Prelude.{slice_range}
use Rattle.std.proofs.lemmas.List.{append_assoc, take_more, drop_more}
use Rattle.framehop_frames.specs.Line.{plain}
use Rattle.framehop_disk.specs.Printed.{is_separator, printed_from}

abbrev left : List ℕ → ℕ → ℕ → List ℕ
left text start at = printed_from (slice_range text start at) (drop at text)

begun : (part text : List ℕ) (byte : ℕ) → is_separator byte ≡ true → printed_from part (byte ∷ text) ≡ plain part ++ byte ∷ printed_from [] text
begun part text byte is = rw is refl

goes-on : (part text : List ℕ) (byte : ℕ) → is_separator byte ≡ false → printed_from part (byte ∷ text) ≡ printed_from (part ++ byte ∷ []) text
goes-on part text byte is = rw is refl

module _ (text : List ℕ) (start at : ℕ) (within : at < length text) where
  abbrev byte : ℕ
  byte = get_or text at 0

  pub at-separator : (printed : List ℕ) → is_separator byte ≡ true
      → ((printed ++ plain (slice_range text start at)) ++ byte ∷ []) ++ left text (at + 1) (at + 1) ≡ printed ++ left text start at
  at-separator printed is =
      let zero : at + 1 - (at + 1) ≡ 0 = omega arith in
      let none : slice_range text (at + 1) (at + 1) ≡ [] = ap (λ n. take n (drop (at + 1) text)) zero in
      let rest = printed_from [] (drop (at + 1) text) in
      let here : left text start at ≡ plain (slice_range text start at) ++ byte ∷ rest =
      ap (printed_from (slice_range text start at)) (drop_more text at 0 within) ∙ begun (slice_range text start at) (drop (at + 1) text) byte is in
      ap (λ part. ((printed ++ plain (slice_range text start at)) ++ byte ∷ []) ++ printed_from part (drop (at + 1) text)) none
      ∙ append_assoc (printed ++ plain (slice_range text start at)) (byte ∷ []) rest
      ∙ append_assoc printed (plain (slice_range text start at)) (byte ∷ rest)
      ∙ ap (λ bytes. printed ++ bytes) (sym here)

  pub at-other : start ≤ at → is_separator byte ≡ false → left text start (at + 1) ≡ left text start at
  at-other low is =
      let size : at + 1 - start ≡ at - start + 1 = omega (arith, low) in
      let long : at - start < length (drop start text) = omega (arith, low, within, length-drop start text) in
      let there : get_or (drop start text) (at - start) 0 ≡ byte = get_or-drop start text (at - start) 0 ∙ ap (λ n. get_or text n 0) (omega (arith, low)) in
      let part : slice_range text start (at + 1) ≡ slice_range text start at ++ byte ∷ [] =
      ap (λ n. take n (drop start text)) size ∙ take_more (drop start text) (at - start) 0 long ∙ ap (λ b. slice_range text start at ++ b ∷ []) there in
      ap (λ p. printed_from p (drop (at + 1) text)) part
      ∙ sym (ap (printed_from (slice_range text start at)) (drop_more text at 0 within) ∙ goes-on (slice_range text start at) (drop (at + 1) text) byte is)
