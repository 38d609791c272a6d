-- The count of each stack after a line is counted.
use Rattle.std.proofs.Common.{◌≡◌, ◌≢◌, ◌+◌, ◌∙◌, ℕ, Bool, true, false, nat_eq, cond, List, ap, refl, subst, sym, arith}
use Rattle.std.specs.Cmp.Lexicographic.{pointwise, same_text, other_text}
use Rattle.std.specs.Global.{Global}
use Rattle.std.specs.Prelude.{Option, Some, None, Result, Ok, Err, IfOk, OnOk, unwrap_or}
use Rattle.std.specs.declared.vec.Vec.{Vec}
use Rattle.framehop_folded.specs.Folded.{count_in, entry_of, together}
use Rattle.framehop_folded.specs.declared.folded.Folded.{Folded}
use Rattle.framehop_folded.specs.declared.text.FoldedLine.{FoldedLine}
use Rattle.framehop_disk.specs.Counted.{with_line}
use Rattle.framehop_disk.specs.Printed.{printed_text}

together-some : (before : Option ℕ) (count : ℕ) → Some (unwrap_or before 0 + count) ≡ together before (Some count)
together-some (Some before) count = refl
together-some None count = let sum : 0 + count ≡ count = omega arith in ap Some sum

module _ (old new : Folded) (line : FoldedLine) (printed : List ℕ) (is : printed ≡ printed_text line.stack.items)
    (counted : entry_of new printed ≡ Some (count_in old printed + line.count))
    (others : (other : List ℕ) → other ≢ printed → entry_of new other ≡ entry_of old other) where
  abbrev chosen : List ℕ → Bool → Option ℕ
  chosen stack b = cond b (together (entry_of old stack) (Some line.count)) (entry_of old stack)

  own : entry_of new printed ≡ together (entry_of old printed) (Some line.count)
  own = counted ∙ together-some (entry_of old printed) line.count

  each : (stack : List ℕ) (b : Bool) → b ≡ pointwise nat_eq printed stack → entry_of new stack ≡ chosen stack b
  each stack true e = subst (λ it. entry_of new it ≡ together (entry_of old it) (Some line.count)) (same_text printed stack e) own
  each stack false e = others stack (λ same. other_text printed stack e (sym same))

  pub added-line : (stack : List ℕ) → entry_of new stack ≡ with_line stack (entry_of old stack) line
  added-line stack =
      each stack (pointwise nat_eq printed stack) refl ∙ ap (λ text. chosen stack (pointwise nat_eq text stack)) is

pub line-counted : {X E : Type 0} (old new : Folded) (line : FoldedLine) (printed : Vec ℕ Global) → printed.items ≡ printed_text line.stack.items
    → (result : Result X E) → OnOk result (entry_of new printed.items ≡ Some (count_in old printed.items + line.count))
    → OnOk result ((other : List ℕ) → other ≢ printed.items → entry_of new other ≡ entry_of old other)
    → IfOk result (λ done. (stack : List ℕ) → entry_of new stack ≡ with_line stack (entry_of old stack) line)
line-counted old new line printed is (Ok done) counted others = added-line old new line printed.items is counted others
line-counted old new line printed is (Err error) counted others = tt
