-- Folded stacks as a file of speedscope (https://www.speedscope.app/file-format-schema.json, `File`, `SampledProfile`).
use denote.Ref.{Bor}
use Rattle.std.specs.Prelude.{ℕ, ◌≡◌, ◌+◌, ◌==◌, nat_eq, Bool, List, [], ◌∷◌, ◌++◌, length, map, take, drop, codes, Option, Some, None, is_some, option_map, unwrap_or, sum_by, if◌then◌else◌}
use Rattle.std.specs.BTreeMap.{BTreeMap, get_by}
use Rattle.std.specs.Cmp.Lexicographic.{pointwise, slice_cmp}
use Rattle.std.specs.Global.{Global}
use Rattle.std.specs.Io.Iter.{u64_saturate}
use Rattle.std.specs.List.{filter, fold, list_any, position, position_or_len}
use Rattle.std.specs.List.Sorted.{IsStrictlySortedBy}
use Rattle.std.specs.Ordering.{nat_cmp}
use Rattle.std.specs.Str.Lossy.{utf8_lossy}
use Rattle.std.specs.declared.vec.Vec.{Vec}
use Rattle.serde_json.specs.Data.{Data, number, unsigned, string, array, object, member, no_members}
use Rattle.serde_json.specs.View.{view, items_of}
use Rattle.serde_json.specs.Written.{compact_text}
use Rattle.framehop_folded.specs.FlameGraph.Stacks.{frames_of}
use Rattle.framehop_folded.specs.declared.speedscope.Frames.{Frames}
use Rattle.framehop_folded.specs.declared.speedscope.Stack.{Stack}

-- ---- stacks

-- a stack of a profile: the names of its frames as they are folded, and how often it was counted
pub record StackView : Type 0 where
  pub profile : List ℕ
  pub frames : List ℕ
  pub count : ℕ

abbrev pub stack_view : Stack → StackView
stack_view stack = record { profile = stack.profile.now; frames = stack.frames.now; count = stack.count }

-- the outermost frame of a folded stack, and the frames inside it: all and none where it has no `;`
abbrev pub outermost : List ℕ → List ℕ
outermost stack = take (position_or_len (λ byte. byte == 59) stack) stack

abbrev pub inside : List ℕ → List ℕ
inside stack = drop (position_or_len (λ byte. byte == 59) stack + 1) stack

-- a folded stack is one of the profile of a title or, of a thread, of the profile of its outermost frame
abbrev pub stack_of : List ℕ → Bool → List ℕ → ℕ → StackView
stack_of title by_thread stack count = if by_thread
    then record { profile = outermost stack; frames = inside stack; count = count }
    else record { profile = title; frames = stack; count = count }

abbrev pub stacks_of : List ℕ → Bool → List (Vec ℕ Global × ℕ) → List StackView
stacks_of title by_thread entries = map (λ entry. stack_of title by_thread entry.0.items entry.1) entries

-- the names of its frames, from the outermost on
abbrev pub names_of : List ℕ → List (List ℕ)
names_of frames = if length frames == 0 then [] else frames_of frames

-- ---- frames

-- the number of a name among others
abbrev pub number_in : List (List ℕ) → List ℕ → Option ℕ
number_in names name = position (λ one. pointwise nat_eq one name) names

-- each name once, in the order in which they are met
unfoldable pub with_name : List (List ℕ) → List ℕ → List (List ℕ)
with_name names name = if is_some (number_in names name) then names else names ++ name ∷ []

abbrev pub with_names : List (List ℕ) → List (List ℕ) → List (List ℕ)
with_names names others = fold with_name names others

abbrev pub names_among : List (List ℕ) → List StackView → List (List ℕ)
names_among names stacks = fold (λ names stack. with_names names (names_of stack.frames)) names stacks

abbrev pub frame_data : List ℕ → Data
frame_data name = object (member (codes "name") (string (utf8_lossy name)) no_members)

-- frames have these names, in the order of their numbers
pub record AreFrames (names : List (List ℕ)) (frames : Frames) : Type 0 where
  pub numbers : (name : List ℕ) → get_by (λ key. slice_cmp nat_cmp name key.items) frames.numbers ≡ number_in names name
  pub list : map view frames.list.items ≡ map frame_data names

-- ---- profiles

abbrev pub number_data : ℕ → Data
number_data n = number (unsigned n)

abbrev pub list_data : {A : Type 0} → (A → Data) → List A → Data
list_data value items = array (items_of (map value items))

-- a stack as the numbers of its frames, from the outermost on
abbrev pub sample_data : List (List ℕ) → List ℕ → Data
sample_data names frames = list_data (λ name. number_data (unwrap_or (number_in names name) 0)) (names_of frames)

-- each stack is a sample, whose weight is its count
abbrev pub profile_with : List ℕ → ℕ → List Data → List Data → Data
profile_with name total samples weights = object (
    member (codes "endValue") (number_data total) (
    member (codes "name") (string (utf8_lossy name)) (
    member (codes "samples") (array (items_of samples)) (
    member (codes "startValue") (number_data 0) (
    member (codes "type") (string (codes "sampled")) (
    member (codes "unit") (string (codes "none")) (
    member (codes "weights") (array (items_of weights)) no_members)))))))

abbrev pub profile_data : List (List ℕ) → List ℕ → List StackView → Data
profile_data names name stacks = profile_with name (u64_saturate (sum_by (λ stack. stack.count) stacks))
    (map (λ stack. sample_data names stack.frames) stacks) (map (λ stack. number_data stack.count) stacks)

abbrev pub file_data : List ℕ → List (List ℕ) → List Data → Data
file_data title names profiles = object (
    member (codes "$schema") (string (codes "https://www.speedscope.app/file-format-schema.json")) (
    member (codes "activeProfileIndex") (number_data 0) (
    member (codes "exporter") (string (codes "framehop-stacks")) (
    member (codes "name") (string title) (
    member (codes "profiles") (array (items_of profiles)) (
    member (codes "shared") (object (member (codes "frames") (list_data frame_data names) no_members)) no_members))))))

-- ---- threads

-- the stacks of a thread
abbrev pub stacks_in : List ℕ → List StackView → List StackView
stacks_in thread stacks = filter (λ stack. pointwise nat_eq stack.profile thread) stacks

-- the threads of stacks, each once, in the order of the bytes of their names
pub record AreThreads (stacks : List StackView) (threads : List (List ℕ)) : Type 0 where
  pub ordered : IsStrictlySortedBy (slice_cmp nat_cmp) threads
  pub all : (thread : List ℕ)
      → list_any (λ one. pointwise nat_eq thread one) threads ≡ list_any (λ stack. pointwise nat_eq stack.profile thread) stacks

-- a profile for each thread, of its stacks
abbrev pub thread_profiles : List (List ℕ) → List StackView → List (List ℕ) → List Data
thread_profiles names stacks threads = map (λ thread. profile_data names thread (stacks_in thread stacks)) threads

abbrev pub AreThreadProfiles : List (List ℕ) → List StackView → List Data → Type 0
AreThreadProfiles names stacks profiles =
    (threads : List (List ℕ)) × AreThreads stacks threads × (profiles ≡ thread_profiles names stacks threads)

-- stacks by their threads: of each thread that has some those that it has
abbrev pub some_of : List StackView → Option (List StackView)
some_of [] = None
some_of (stack ∷ stacks) = Some (stack ∷ stacks)

abbrev pub AreByThread : List StackView → BTreeMap (Bor (List ℕ)) (Vec Stack Global) → Type 0
AreByThread stacks by_thread = (thread : List ℕ)
    → option_map (λ found. map stack_view found.items) (get_by (λ key. slice_cmp nat_cmp thread key.now) by_thread)
    ≡ some_of (stacks_in thread stacks)

-- ---- files

-- the file of stacks that are all of one profile
abbrev pub file_of : List ℕ → List StackView → Data
file_of title stacks = file_data title (names_among [] stacks) (profile_data (names_among [] stacks) title stacks ∷ [])

-- a file of stacks that has a profile for each thread
abbrev pub file_with : List ℕ → List StackView → List (List ℕ) → Data
file_with title stacks threads =
    file_data title (names_among [] stacks) (thread_profiles (names_among [] stacks) stacks threads)

abbrev pub IsFileByThread : List ℕ → List StackView → List ℕ → Type 0
IsFileByThread title stacks text =
    (threads : List (List ℕ)) × AreThreads stacks threads × (text ≡ compact_text (file_with title stacks threads))
