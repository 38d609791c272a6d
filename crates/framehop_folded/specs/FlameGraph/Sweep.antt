-- The boxes as they are found along the stacks in order: a box begins at the first stack that has its frames, and ends
-- before the first stack that shares too few frames with the one before it. That these are the boxes of `Boxes` is
-- what `flame_graph` promises.
use Rattle.std.specs.Prelude.{ℕ, ◌≡◌, false, ⊤, List, [], ◌∷◌, ◌++◌, ◌+◌, ◌-◌, length, map, nat_lt, slice_index_or, if◌then◌else◌}
use Rattle.std.specs.List.{common_prefix_len, range_with_len}
use Rattle.std.specs.Ordering.{is_gt}
use Rattle.std.specs.Str.{bytes_eq}
use Rattle.framehop_folded.specs.declared.flame_graph.stacks.Neighbour.{Neighbour}
use Rattle.framehop_folded.specs.FlameGraph.Boxes.{Box}
use Rattle.framehop_folded.specs.FlameGraph.Stacks.{Stacked, compare_stacks}

-- no stack comes after the next one, and none of them before these frames
abbrev pub Rises : List (List ℕ) → List Stacked → Type 0
Rises before [] = ⊤
Rises before (stack ∷ later) = (is_gt (compare_stacks before stack.frames) ≡ false) × Rises stack.frames later

-- how many frames two stacks begin with alike
abbrev pub shared_frames : List (List ℕ) → List (List ℕ) → ℕ
shared_frames before frames = common_prefix_len bytes_eq before frames

-- each stack beside the one before it
abbrev pub neighbours_of : List (List ℕ) → List Stacked → List Neighbour
neighbours_of before [] = []
neighbours_of before (stack ∷ later) =
    record { shared = shared_frames before stack.frames; count = stack.count } ∷ neighbours_of stack.frames later

-- the frames of the stack before the one at an index, which are none at the first
abbrev pub frames_before : List Stacked → ℕ → List (List ℕ)
frames_before stacks at = slice_index_or ([] ∷ map (λ stack. stack.frames) stacks) at []

-- the counts of the stacks, from the first on, that share more frames than `depth` with the one before
abbrev pub count_along : ℕ → List Neighbour → ℕ
count_along depth [] = 0
count_along depth (stack ∷ later) = if nat_lt depth stack.shared then stack.count + count_along depth later else 0

-- the boxes that begin at a stack
abbrev pub boxes_at : ℕ → List (List ℕ) → Neighbour → List Neighbour → List Box
boxes_at left frames here later =
    map (λ depth. record {
      name = slice_index_or frames depth [];
      depth = depth + 1;
      left = left;
      count = here.count + count_along depth later;
    })
    (range_with_len here.shared (length frames - here.shared))

-- the boxes that begin at these stacks, after one with the frames of `before`
abbrev pub boxes_along : ℕ → List (List ℕ) → List Stacked → List Box
boxes_along left before [] = []
boxes_along left before (stack ∷ later) =
    boxes_at left stack.frames (record { shared = shared_frames before stack.frames; count = stack.count })
    (neighbours_of stack.frames later)
    ++ boxes_along (left + stack.count) stack.frames later
