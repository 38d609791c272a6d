-- Stacks that are added with a count of 0, one after another.
use Rattle.std.proofs.Common.{◌≡◌, ◌≢◌, ℕ, Bool, true, false, nat_eq, List, [], ◌∷◌, Option, Some, None, refl, ap, sym, ◌∙◌, subst}
use Rattle.std.specs.Global.{Global}
use Rattle.std.specs.declared.vec.Vec.{Vec}
use Rattle.std.specs.Cmp.{eq_by_cmp_equiv}
use Rattle.std.specs.Cmp.Lexicographic.{pointwise, same_text, other_text, nat_list_cmp_total}
use Rattle.std.specs.List.Sorted.{IsStrictlySortedBy}
use Rattle.std.specs.Map.{lookup, keys_of}
use Rattle.std.specs.Option.{unwrap_or}
use Rattle.std.proofs.lemmas.Map.Keys.{sorted_head, sorted_tail}
use Rattle.framehop_folded.specs.Folded.{entry_of, count_in, with_stack}
use Rattle.framehop_folded.specs.declared.folded.Folded.{Folded}
use Rattle.framehop_folded.specs.Laws.{by_items, is_line, apart}
use Rattle.framehop_folded.proofs.MergeLemmas.{none_after}

pub with_stack-none : (entry : Option ℕ) → with_stack entry None ≡ entry
with_stack-none None = refl
with_stack-none (Some count) = refl

with_stack-some : (entry : Option ℕ) (other : ℕ) → with_stack entry (Some other) ≡ Some (unwrap_or entry 0)
with_stack-some None other = refl
with_stack-some (Some count) other = refl

-- what is left makes up, of each stack, what the stacks of the second make of it
pub record IsAddedSoFar (old other now : Folded) (rest : List (Vec ℕ Global × ℕ)) : Type 0 where
  pub sorted : IsStrictlySortedBy by_items (keys_of rest)
  pub each : (stack : List ℕ) → with_stack (entry_of now stack) (lookup (is_line stack) rest)
      ≡ with_stack (entry_of old stack) (entry_of other stack)

pub begun : (old other : Folded) → IsStrictlySortedBy by_items (keys_of other.counts.entries)
    → IsAddedSoFar old other old other.counts.entries
begun old other sorted = record { sorted = sorted; each = λ stack. refl }

module _ (old other now : Folded) (k : Vec ℕ Global) (count : ℕ) (rest : List (Vec ℕ Global × ℕ))
    (so : IsAddedSoFar old other now ((k, count) ∷ rest))
    (next : Folded) (counted : entry_of next k.items ≡ Some (count_in now k.items))
    (others : (stack : List ℕ) → stack ≢ k.items → entry_of next stack ≡ entry_of now stack) where
  at_first : with_stack (entry_of next k.items) (lookup (is_line k.items) rest) ≡ with_stack (entry_of old k.items) (entry_of other k.items)
  at_first =
      let on : is_line k.items k ≡ true = (eq_by_cmp_equiv nat_list_cmp_total).refl k.items in
      let here : lookup (is_line k.items) ((k, count) ∷ rest) ≡ Some count = rw on refl in
      let none = none_after k rest (sorted_head by_items k (keys_of rest) so.sorted) in
      ap (with_stack (entry_of next k.items)) none ∙ with_stack-none (entry_of next k.items) ∙ counted
      ∙ sym (with_stack-some (entry_of now k.items) count) ∙ sym (ap (with_stack (entry_of now k.items)) here) ∙ so.each k.items

  at_other : (stack : List ℕ) → stack ≢ k.items
      → with_stack (entry_of next stack) (lookup (is_line stack) rest) ≡ with_stack (entry_of old stack) (entry_of other stack)
  at_other stack ne =
      let off = apart stack k ne in
      let past : lookup (is_line stack) ((k, count) ∷ rest) ≡ lookup (is_line stack) rest = rw off refl in
      ap (λ entry. with_stack entry (lookup (is_line stack) rest)) (others stack ne)
      ∙ ap (with_stack (entry_of now stack)) (sym past) ∙ so.each stack

  at_each : (stack : List ℕ) (b : Bool) → b ≡ pointwise nat_eq stack k.items
      → with_stack (entry_of next stack) (lookup (is_line stack) rest) ≡ with_stack (entry_of old stack) (entry_of other stack)
  at_each stack true e =
      subst (λ stack. with_stack (entry_of next stack) (lookup (is_line stack) rest) ≡ with_stack (entry_of old stack) (entry_of other stack))
      (sym (same_text stack k.items e)) at_first
  at_each stack false e = at_other stack (other_text stack k.items e)

  pub step : IsAddedSoFar old other next rest
  step = record {
    sorted = sorted_tail by_items k (keys_of rest) so.sorted;
    each = λ stack. at_each stack (pointwise nat_eq stack k.items) refl;
  }

pub all_added : (old other now : Folded) → IsAddedSoFar old other now []
    → (stack : List ℕ) → entry_of now stack ≡ with_stack (entry_of old stack) (entry_of other stack)
all_added old other now so = λ stack. sym (with_stack-none (entry_of now stack)) ∙ so.each stack
