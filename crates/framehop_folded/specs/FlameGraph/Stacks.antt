-- Stacks as lists of frames, in order, and the frames with which they begin.
use Rattle.std.specs.Prelude.{ℕ, Bool, true, false, List, [], ◌∷◌, ◌==◌, ◌&&◌, map, sum_by, if◌then◌else◌}
use Rattle.std.specs.Cmp.Lexicographic.{slice_cmp}
use Rattle.std.specs.Global.{Global}
use Rattle.std.specs.List.{slice_split}
use Rattle.std.specs.Ordering.{nat_cmp, is_lt}
use Rattle.std.specs.Str.{bytes_eq}
use Rattle.std.specs.declared.cmp.Ordering.{Ordering}
use Rattle.std.specs.declared.vec.Vec.{Vec}
use Rattle.framehop_folded.specs.Folded.{entries_of, count_in}
use Rattle.framehop_folded.specs.declared.folded.Folded.{Folded}
use Rattle.framehop_folded.specs.declared.flame_graph.stacks.Stack.{Stack}

-- a stack's frames from the outermost on, and how often it was counted
pub record Stacked : Type 0 where
  pub frames : List (List ℕ)
  pub count : ℕ

-- the frames of a stack's text
abbrev pub frames_of : List ℕ → List (List ℕ)
frames_of stack = slice_split (λ byte. byte == 59) stack

-- the same of a stack whose frames were found
abbrev pub viewed : Stack → Stacked
viewed stack = record { frames = map (λ frame. frame.now) stack.frames.items; count = stack.count }

-- a folded stack with its count
abbrev pub stacked : Vec ℕ Global × ℕ → Stacked
stacked entry = record { frames = frames_of entry.0.items; count = entry.1 }

abbrev pub stacks_of : Folded → List Stacked
stacks_of folded = map stacked (entries_of folded)

-- a stack whose frames were found, with how often it was counted before
abbrev pub viewed_before : Stack → Stacked
viewed_before stack = record { frames = map (λ frame. frame.now) stack.frames.items; count = stack.before }

-- a folded stack with its count in another run
abbrev pub stacked_before : Folded → Vec ℕ Global × ℕ → Stacked
stacked_before before entry = record { frames = frames_of entry.0.items; count = count_in before entry.0.items }

abbrev pub stacks_before : Folded → Folded → List Stacked
stacks_before folded before = map (stacked_before before) (entries_of folded)

-- frames in the order of their bytes
abbrev pub compare_frames : List ℕ → List ℕ → Ordering
compare_frames = slice_cmp nat_cmp

-- Lists of frames: the first frame that differs decides, and a list is before those that begin with it.
abbrev pub compare_stacks : List (List ℕ) → List (List ℕ) → Ordering
compare_stacks = slice_cmp compare_frames

-- a stack is before frames in that order
abbrev pub is_before : List (List ℕ) → List (List ℕ) → Bool
is_before prefix frames = is_lt (compare_stacks frames prefix)

-- a stack begins with the frames of a prefix
abbrev pub begins_with : List (List ℕ) → List (List ℕ) → Bool
begins_with [] frames = true
begins_with (frame ∷ prefix) [] = false
begins_with (frame ∷ prefix) (first ∷ frames) = bytes_eq frame first && begins_with prefix frames

-- the counts of the stacks that pass a test, together
abbrev pub count_where : (List (List ℕ) → Bool) → List Stacked → ℕ
count_where test stacks = sum_by (λ stack. if test stack.frames then stack.count else 0) stacks

-- the counts of all stacks, together
abbrev pub total_of : List Stacked → ℕ
total_of stacks = sum_by (λ stack. stack.count) stacks
