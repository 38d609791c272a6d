-- Folded stacks: each stack once, with how often it was counted.
-- As text: FlameGraph's `stackcollapse-perf.pl`, which writes such lines.
use Rattle.std.specs.Prelude.{ℕ, ◌≡◌, ◌+◌, ◌≤◌, ◌^◌, Option, Some, None, IsSome, List, [], ◌∷◌, ◌++◌, sum_by, unwrap_or}
use Rattle.std.specs.BTreeMap.{IsOrdered, values, get_by}
use Rattle.std.specs.Cmp.Lexicographic.{slice_cmp}
use Rattle.std.specs.Fmt.{decimal}
use Rattle.std.specs.Global.{Global}
use Rattle.std.specs.Ordering.{nat_cmp}
use Rattle.std.specs.declared.vec.Vec.{Vec}
use Rattle.framehop_folded.specs.declared.folded.Folded.{Folded}

-- the stacks with their counts, in order
abbrev pub entries_of : Folded → List (Vec ℕ Global × ℕ)
entries_of folded = folded.counts.entries

-- the count of a stack, if it is there
abbrev pub entry_of : Folded → List ℕ → Option ℕ
entry_of folded stack = get_by (λ key. slice_cmp nat_cmp stack key.items) folded.counts

abbrev pub count_in : Folded → List ℕ → ℕ
count_in folded stack = unwrap_or (entry_of folded stack) 0

-- the counts of all stacks, together
abbrev pub total_of : Folded → ℕ
total_of folded = sum_by (λ count. count) (values folded.counts)

-- the stacks are in the order of their bytes, each once
abbrev pub IsInOrderOfBytes : Folded → Type 0
IsInOrderOfBytes folded = IsOrdered (λ x y. slice_cmp nat_cmp x.items y.items) folded.counts

-- both have the same stacks and counts
abbrev pub IsUnchanged : Folded → Folded → Type 0
IsUnchanged old new = new.counts.entries ≡ old.counts.entries

-- what two counts of a stack are together, where each of them may be missing
abbrev pub together : Option ℕ → Option ℕ → Option ℕ
together None other = other
together (Some count) None = Some count
together (Some count) (Some other) = Some (count + other)

-- the count of a stack, or 0 where only others have it
abbrev pub with_stack : Option ℕ → Option ℕ → Option ℕ
with_stack (Some count) other = Some count
with_stack None None = None
with_stack None (Some other) = Some 0

-- a stack of the second has counts that add up to 2^64 or more
abbrev pub IsTooLarge : Folded → Folded → List ℕ → Type 0
IsTooLarge folded other stack = IsSome (entry_of other stack) × (2 ^ 64 ≤ count_in folded stack + count_in other stack)

-- a stack, a blank, its count and a line feed
abbrev pub folded_line : List ℕ → ℕ → List ℕ
folded_line stack count = stack ++ 32 ∷ decimal count ++ 10 ∷ []

abbrev pub folded_lines : List (Vec ℕ Global × ℕ) → List ℕ
folded_lines [] = []
folded_lines (entry ∷ entries) = folded_line entry.0.items entry.1 ++ folded_lines entries

-- each stack with its count, in the order of their bytes
abbrev pub text_of : Folded → List ℕ
text_of folded = folded_lines folded.counts.entries
