-- Folded stacks that are added to others, one stack after another.
use Rattle.std.proofs.Common.{◌≡◌, ◌≢◌, ◌⊎◌, inl, inr, ◌+◌, ◌<◌, ◌≤◌, ◌^◌, ℕ, Bool, true, false, nat_eq, List, [], ◌∷◌, Option, Some, None, refl, ap, sym, ◌∙◌, subst, true≢false, arith}
use Rattle.std.specs.Global.{Global}
use Rattle.std.specs.declared.vec.Vec.{Vec}
use Rattle.std.specs.Cmp.{eq_by_cmp_equiv}
use Rattle.std.specs.Cmp.Lexicographic.{pointwise, same_text, other_text, nat_list_cmp_total}
use Rattle.std.specs.List.{AllByRecursion, sum_by}
use Rattle.std.specs.List.Sorted.{IsStrictlySortedBy}
use Rattle.std.specs.Map.{lookup, keys_of, values_of}
use Rattle.std.specs.Option.{IsSome, unwrap_or}
use Rattle.std.specs.Ordering.{is_eq}
use Rattle.std.specs.declared.cmp.Ordering.TheVariants.{Less}
use Rattle.std.proofs.lemmas.List.Sums.{sum_by-cons}
use Rattle.std.proofs.lemmas.Map.Keys.{sorted_head, sorted_tail}
use Rattle.framehop_folded.specs.Folded.{entry_of, count_in, total_of, together, IsTooLarge}
use Rattle.framehop_folded.specs.declared.folded.Folded.{Folded}
use Rattle.framehop_folded.specs.Laws.{by_items, is_line, apart}

-- ---- counts that may be missing

pub together-none : (entry : Option ℕ) → together entry None ≡ entry
together-none None = refl
together-none (Some count) = refl

together-some : (entry : Option ℕ) (more : ℕ) → together entry (Some more) ≡ Some (unwrap_or entry 0 + more)
together-some None more = let sum : more ≡ 0 + more = omega arith in ap Some sum
together-some (Some count) more = refl

together-sum : (one other : Option ℕ) → unwrap_or (together one other) 0 ≡ unwrap_or one 0 + unwrap_or other 0
together-sum None other = let sum : unwrap_or other 0 ≡ 0 + unwrap_or other 0 = omega arith in sum
together-sum (Some count) None = let sum : count ≡ count + 0 = omega arith in sum
together-sum (Some count) (Some other) = refl

-- ---- the first of the stacks that are left

-- a key is not among those after it
pub none_after : (k : Vec ℕ Global) (es : List (Vec ℕ Global × ℕ)) → AllByRecursion (λ y. by_items k y ≡ Less) (keys_of es)
    → lookup (is_line k.items) es ≡ None
none_after k [] above = refl
none_after k (e ∷ es) above =
    let off : is_line k.items e.0 ≡ false = ap is_eq above.0 in
    rw off (none_after k es above.1)

-- ---- what was added so far

-- Of a stack: what is left makes up what both have together, and its count is the old one or that.
pub record IsStackSoFar (old other now : Folded) (rest : List (Vec ℕ Global × ℕ)) (stack : List ℕ) : Type 0 where
  pub left : together (entry_of now stack) (lookup (is_line stack) rest) ≡ together (entry_of old stack) (entry_of other stack)
  pub either : (entry_of now stack ≡ entry_of old stack) ⊎ (entry_of now stack ≡ together (entry_of old stack) (entry_of other stack))
  pub found : IsSome (lookup (is_line stack) rest) → IsSome (entry_of other stack)
  pub large : IsTooLarge old other stack → IsSome (lookup (is_line stack) rest)

pub record IsMergedSoFar (old other now : Folded) (rest : List (Vec ℕ Global × ℕ)) : Type 0 where
  pub sorted : IsStrictlySortedBy by_items (keys_of rest)
  pub total : total_of now + sum_by (λ count. count) (values_of rest) ≡ total_of old + total_of other
  pub each : (stack : List ℕ) → IsStackSoFar old other now rest stack

pub begun : (old other : Folded) → IsStrictlySortedBy by_items (keys_of other.counts.entries)
    → IsMergedSoFar old other old other.counts.entries
begun old other sorted = record {
  sorted = sorted;
  total = refl;
  each = λ stack. record { left = refl; either = inl refl; found = λ some. some; large = λ large. large.0 };
}

module _ (old other now : Folded) (k : Vec ℕ Global) (count : ℕ) (rest : List (Vec ℕ Global × ℕ))
    (so : IsMergedSoFar old other now ((k, count) ∷ rest)) where
  here : lookup (is_line k.items) ((k, count) ∷ rest) ≡ Some count
  here = let on : is_line k.items k ≡ true = (eq_by_cmp_equiv nat_list_cmp_total).refl k.items in rw on refl

  -- what both have of the first stack together
  both : together (entry_of old k.items) (entry_of other k.items) ≡ Some (count_in now k.items + count)
  both = sym (so.each k.items).left ∙ ap (together (entry_of now k.items)) here ∙ together-some (entry_of now k.items) count

  sums : count_in old k.items + count_in other k.items ≡ count_in now k.items + count
  sums = sym (together-sum (entry_of old k.items) (entry_of other k.items)) ∙ ap (λ entry. unwrap_or entry 0) both

  -- a sum that is too large is one of a stack of the second
  pub too_large : 2 ^ 64 ≤ count_in now k.items + count → IsTooLarge old other k.items
  too_large large = ((so.each k.items).found (subst IsSome (sym here) refl), omega (arith, sums, large))

  module _ (next : Folded) (counted : entry_of next k.items ≡ Some (count_in now k.items + count))
      (others : (stack : List ℕ) → stack ≢ k.items → entry_of next stack ≡ entry_of now stack)
      (total : total_of next ≡ total_of now + count) (small : count_in now k.items + count < 2 ^ 64) where
    at_first : IsStackSoFar old other next rest k.items
    at_first =
        let none = none_after k rest (sorted_head by_items k (keys_of rest) so.sorted) in
        let gone : together (entry_of next k.items) (lookup (is_line k.items) rest) ≡ entry_of next k.items =
        ap (together (entry_of next k.items)) none ∙ together-none (entry_of next k.items) in
        let whole : entry_of next k.items ≡ together (entry_of old k.items) (entry_of other k.items) = counted ∙ sym both in
        record {
          left = gone ∙ whole;
          either = inr whole;
          found = λ some. absurd (true≢false (sym (subst IsSome none some)));
          large = λ large. absurd (omega (arith, sums, small, large.1));
        }

    at_other : (stack : List ℕ) → stack ≢ k.items → IsStackSoFar old other next rest stack
    at_other stack ne =
        let off = apart stack k ne in
        let past : lookup (is_line stack) ((k, count) ∷ rest) ≡ lookup (is_line stack) rest = rw off refl in
        let kept = others stack ne in
        let before = so.each stack in
        record {
          left = ap (λ entry. together entry (lookup (is_line stack) rest)) kept ∙ ap (together (entry_of now stack)) (sym past) ∙ before.left;
          either = subst (λ entry. (entry ≡ entry_of old stack) ⊎ (entry ≡ together (entry_of old stack) (entry_of other stack))) (sym kept) before.either;
          found = λ some. before.found (subst IsSome (sym past) some);
          large = λ large. subst IsSome past (before.large large);
        }

    at_each : (stack : List ℕ) (b : Bool) → b ≡ pointwise nat_eq stack k.items → IsStackSoFar old other next rest stack
    at_each stack true e = subst (IsStackSoFar old other next rest) (sym (same_text stack k.items e)) at_first
    at_each stack false e = at_other stack (other_text stack k.items e)

    pub step : IsMergedSoFar old other next rest
    step = record {
      sorted = sorted_tail by_items k (keys_of rest) so.sorted;
      total = omega (arith, total, so.total, sum_by-cons (λ (count : ℕ). count) count (values_of rest));
      each = λ stack. at_each stack (pointwise nat_eq stack k.items) refl;
    }

-- ---- all, or a part

module _ (old other now : Folded) (so : IsMergedSoFar old other now []) where
  pub all_counted : (stack : List ℕ) → entry_of now stack ≡ together (entry_of old stack) (entry_of other stack)
  all_counted stack = sym (together-none (entry_of now stack)) ∙ (so.each stack).left

  pub none_large : (stack : List ℕ) → IsTooLarge old other stack → false ≡ true
  none_large stack large = (so.each stack).large large

  pub all_total : total_of now ≡ total_of old + total_of other
  all_total = omega (arith, so.total)
