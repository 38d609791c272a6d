-- The boxes of a flame graph (Brendan Gregg, "The Flame Graph", ACM Queue 14(2), 2016): one for each list of frames
-- with which a stack begins. It is as wide as the counts of those stacks, and begins where the counts of the stacks
-- before them end.
use Rattle.std.specs.Prelude.{ℕ, ◌≡◌, ◌-◌, ◌<◌, true, List, [], ◌∷◌, length, map, codes, slice_index_or}
use Rattle.std.specs.List.{Contains, list_any}
use Rattle.std.specs.List.Sorted.{IsStrictlySortedBy}
use Rattle.framehop_folded.specs.declared.flame_graph.boxes.FrameBox.{FrameBox}
use Rattle.framehop_folded.specs.FlameGraph.Stacks.{Stacked, compare_stacks, is_before, begins_with, count_where, total_of}

-- one frame or more, with which a stack begins
abbrev pub IsPrefix : List Stacked → List (List ℕ) → Type 0
IsPrefix stacks prefix = (0 < length prefix) × (list_any (λ stack. begins_with prefix stack.frames) stacks ≡ true)

-- all prefixes of the stacks, each once, in order
pub record ArePrefixes (stacks : List Stacked) (prefixes : List (List (List ℕ))) : Type 0 where
  pub rising : IsStrictlySortedBy compare_stacks prefixes
  pub sound : (prefix : List (List ℕ)) → Contains prefixes prefix → IsPrefix stacks prefix
  pub complete : (prefix : List (List ℕ)) → IsPrefix stacks prefix → Contains prefixes prefix

-- A box: the name of its frame, how many frames are below it, and, in counts, where it begins and how wide it is.
pub record Box : Type 0 where
  pub name : List ℕ
  pub depth : ℕ
  pub left : ℕ
  pub count : ℕ

abbrev pub boxed : FrameBox → Box
boxed frame = record { name = frame.name.now; depth = frame.depth; left = frame.left; count = frame.count }

-- the box of a prefix
abbrev pub box_of : List Stacked → List (List ℕ) → Box
box_of stacks prefix = record {
  name = slice_index_or prefix (length prefix - 1) [];
  depth = length prefix;
  left = count_where (is_before prefix) stacks;
  count = count_where (begins_with prefix) stacks;
}

-- the box of all stacks
abbrev pub root_of : List Stacked → Box
root_of stacks = record { name = codes "all"; depth = 0; left = 0; count = total_of stacks }

-- all boxes, that one first
abbrev pub boxes_of : List Stacked → List (List (List ℕ)) → List Box
boxes_of stacks prefixes = root_of stacks ∷ map (box_of stacks) prefixes
