-- The boxes that are found along the stacks in order are those of the prefixes.
use Rattle.std.proofs.Common.{◌≡◌, ◌⊎◌, ℕ, Bool, true, false, cond, List, [], ◌∷◌, ◌++◌, ◌+◌, ◌-◌, ◌<◌, ◌≤◌, suc, zero, length, take, get_or, map, refl, ap, sym, ◌∙◌, subst, arith, inl, inr, ⊎_elim, append_assoc, Ordering}
use Rattle.std.specs.Prelude.{leb, nat_lt}
use Rattle.std.specs.List.{All, AllByRecursion, Contains, list_any, range_with_len}
use Rattle.std.specs.List.Sorted.{IsStrictlySortedBy, IsPermutation}
use Rattle.std.specs.Str.{bytes_eq}
use Rattle.std.proofs.lemmas.List.Sorted.{sum_by-IsPermutation, list_any-IsPermutation}
use Rattle.std.specs.declared.cmp.Ordering.TheVariants.{Less}
use Rattle.std.proofs.lemmas.Bool.{false≢true, le-leb, lt-leb, lt-ltb, le-ltb, cases_lt, cases_Bool, or_cases, or_left, or_right}
use Rattle.std.proofs.lemmas.List.{map-append, length-take, get_or-take}
use Rattle.std.proofs.lemmas.List.Elements.{All-contains, All-from_recursion, Contains-append_left, Contains-append_right, Contains-append_cases}
use Rattle.std.proofs.lemmas.List.FromFn.{length-map-range_with_len, get_or-map-range_with_len}
use Rattle.std.proofs.lemmas.List.Sums.{sum_by-cons, sum_by-append, sum_by_push, common_prefix_len-le}
use Rattle.framehop_folded.specs.FlameGraph.Boxes.{Box, box_of, boxes_of, root_of, IsPrefix, ArePrefixes}
use Rattle.framehop_folded.specs.FlameGraph.Stacks.{Stacked, compare_stacks, is_before, begins_with, count_where, total_of}
use Rattle.framehop_folded.specs.FlameGraph.Sweep.{Rises, shared_frames, neighbours_of, count_along, boxes_at, boxes_along}
use Rattle.framehop_folded.proofs.OrderLemmas.{Frames, Before, NotAfter, not_after_trans, not_after_before, not_after-itself, is_before-yes, is_before-not_after, begins-not_after, begins-not_before, take-begins, begins-take, begins-length, take-rises, between, begins-shared, past-shared}

-- ---- lists

each-append : {X : Type 0} (P : X → Type 0) (xs ys : List X) → AllByRecursion P xs → AllByRecursion P ys → AllByRecursion P (xs ++ ys)
each-append P [] ys h k = k
each-append P (x ∷ xs) ys h k = (h.0, each-append P xs ys h.1 k)

each-weaker : {X : Type 0} (P Q : X → Type 0) (xs : List X) → ((x : X) → P x → Q x) → AllByRecursion P xs → AllByRecursion Q xs
each-weaker P Q [] f h = h
each-weaker P Q (x ∷ xs) f h = (f x h.0, each-weaker P Q xs f h.1)

map-range : {X : Type 0} (f g : ℕ → X) (a n : ℕ) → ((d : ℕ) → a ≤ d → d < a + n → f d ≡ g d) → map f (range_with_len a n) ≡ map g (range_with_len a n)
map-range f g a zero h = refl
map-range f g a (suc n) h =
    ap (λ x. x ∷ map f (range_with_len (a + 1) n)) (h a (omega arith) (omega arith))
    ∙ ap (λ xs. g a ∷ xs) (map-range f g (a + 1) n (λ d low high. h d (omega arith) (omega arith)))

map-map : {X Y : Type 0} (g : X → Y) (f : ℕ → X) (ds : List ℕ) → map g (map f ds) ≡ map (λ d. g (f d)) ds
map-map g f [] = refl
map-map g f (d ∷ ds) = ap (λ ys. g (f d) ∷ ys) (map-map g f ds)

each-range : {X : Type 0} (P : X → Type 0) (f : ℕ → X) (a n : ℕ) → ((d : ℕ) → a ≤ d → d < a + n → P (f d)) → AllByRecursion P (map f (range_with_len a n))
each-range P f a zero h = tt
each-range P f a (suc n) h = (h a (omega arith) (omega arith), each-range P f (a + 1) n (λ d low high. h d (omega arith) (omega arith)))

sorted-range : {X : Type 0} (c : X → X → Ordering) (f : ℕ → X) (a n : ℕ) → ((d e : ℕ) → a ≤ d → d < e → e < a + n → c (f d) (f e) ≡ Less)
    → IsStrictlySortedBy c (map f (range_with_len a n))
unfolding IsStrictlySortedBy
sorted-range c f a zero h = tt
sorted-range c f a (suc n) h = (
  each-range (λ y. c (f a) y ≡ Less) f (a + 1) n (λ e low high. h a e (omega arith) (omega arith) (omega arith)),
  sorted-range c f (a + 1) n (λ d e low less high. h d e (omega arith) less (omega arith)),
)

sorted-append : {X : Type 0} (c : X → X → Ordering) (xs ys : List X) → IsStrictlySortedBy c xs → IsStrictlySortedBy c ys
    → AllByRecursion (λ x. AllByRecursion (λ y. c x y ≡ Less) ys) xs → IsStrictlySortedBy c (xs ++ ys)
unfolding IsStrictlySortedBy
sorted-append c [] ys h k below = k
sorted-append c (x ∷ xs) ys h k below = (each-append (λ y. c x y ≡ Less) xs ys h.0 below.0, sorted-append c xs ys h.1 k below.1)

contains-range : {X : Type 0} (f : ℕ → X) (a n d : ℕ) → a ≤ d → d < a + n → Contains (map f (range_with_len a n)) (f d)
contains-range f a n d low high =
    let place = get_or-map-range_with_len f a n (d - a) d (f d) (omega arith) (omega arith) in
    let size = length-map-range_with_len f a n in
    (d - a, omega arith, place)

from-range : {X : Type 0} (f : ℕ → X) (a n : ℕ) (x : X) → Contains (map f (range_with_len a n)) x → (d : ℕ) × (a ≤ d) × (d < a + n) × (x ≡ f d)
from-range {X} f a n x h =
    let P : X → Type 0 = λ y. (d : ℕ) × (a ≤ d) × (d < a + n) × (y ≡ f d) in
    All-contains P (map f (range_with_len a n)) x
    (All-from_recursion P (map f (range_with_len a n)) (each-range P f a n (λ d low high. (d, low, high, refl)))) h

-- ---- stacks in order

abbrev AllAfter : Frames → List Stacked → Type 0
AllAfter before stacks = AllByRecursion (λ stack. NotAfter before stack.frames) stacks

abbrev pub AllUpTo : Frames → List Stacked → Type 0
AllUpTo last stacks = AllByRecursion (λ stack. NotAfter stack.frames last) stacks

all_after : (before : Frames) (stacks : List Stacked) → Rises before stacks → AllAfter before stacks
all_after before [] h = tt
all_after before (stack ∷ later) h = (
  h.0,
  each-weaker (λ s. NotAfter stack.frames s.frames) (λ s. NotAfter before s.frames) later
      (λ s after. not_after_trans before stack.frames s.frames h.0 after) (all_after stack.frames later h.1),
)

-- ---- counts

none-counted : (test : Frames → Bool) (stacks : List Stacked) → AllByRecursion (λ s. test s.frames ≡ false) stacks → count_where test stacks ≡ 0
none-counted test [] h = refl
none-counted test (stack ∷ later) h =
    let first = sum_by-cons (λ (s : Stacked). cond (test s.frames) s.count 0) stack later in
    let rest = none-counted test later h.1 in
    let none : cond (test stack.frames) stack.count 0 ≡ 0 = rw h.0 refl in
    omega (arith, first, rest, none)

all-counted : (test : Frames → Bool) (stacks : List Stacked) → AllByRecursion (λ s. test s.frames ≡ true) stacks → count_where test stacks ≡ total_of stacks
all-counted test [] h = refl
all-counted test (stack ∷ later) h =
    let first = sum_by-cons (λ (s : Stacked). cond (test s.frames) s.count 0) stack later in
    let all = sum_by-cons (λ (s : Stacked). s.count) stack later in
    let rest = all-counted test later h.1 in
    let one : cond (test stack.frames) stack.count 0 ≡ stack.count = rw h.0 refl in
    omega (arith, first, rest, one, all)

counted-append : (test : Frames → Bool) (xs ys : List Stacked) → count_where test (xs ++ ys) ≡ count_where test xs + count_where test ys
counted-append test xs ys = sum_by-append (λ (s : Stacked). cond (test s.frames) s.count 0) xs ys

-- ---- how far a box reaches

along_at : (p before : Frames) (d : ℕ) (stack : Stacked) (later : List Stacked) (b : Bool)
    → begins_with p stack.frames ≡ b → nat_lt d (shared_frames before stack.frames) ≡ b
    → (b ≡ true → count_where (begins_with p) later ≡ count_along d (neighbours_of stack.frames later))
    → (b ≡ false → count_where (begins_with p) later ≡ 0)
    → count_where (begins_with p) (stack ∷ later) ≡ count_along d (neighbours_of before (stack ∷ later))
along_at p before d stack later true is shares more none =
    let first = sum_by-cons (λ (s : Stacked). cond (begins_with p s.frames) s.count 0) stack later in
    first ∙ rw (is, shares, more refl) refl
along_at p before d stack later false is shares more none =
    let first = sum_by-cons (λ (s : Stacked). cond (begins_with p s.frames) s.count 0) stack later in
    first ∙ rw (is, shares, none refl) refl

below_is : (n m : ℕ) → leb (suc n) m ≡ nat_lt n m
below_is n m = ⊎_elim (λ (h : n < m). le-leb (suc n) m (omega arith) ∙ sym (lt-ltb n m h))
    (λ (h : m ≤ n). lt-leb (suc n) m (omega arith) ∙ sym (le-ltb n m h)) (cases_lt n m)

begins-below : (p before s : Frames) (d : ℕ) → length p ≡ suc d → begins_with p before ≡ true → begins_with p s ≡ nat_lt d (shared_frames before s)
begins-below p before s d size is =
    let front : p ≡ take (suc d) before = begins-take p before is ∙ ap (λ n. take n before) size in
    let fits = begins-length p before is in
    ap (λ q. begins_with q s) front ∙ begins-shared (suc d) before s (omega arith) ∙ below_is d (shared_frames before s)

-- a stack that does not begin with a prefix ends those that do
none-begin : (p before : Frames) (stack : Stacked) (later : List Stacked) → NotAfter before stack.frames → Rises stack.frames later
    → begins_with p before ≡ true → begins_with p stack.frames ≡ false → count_where (begins_with p) later ≡ 0
none-begin p before stack later h rises is not =
    none-counted (begins_with p) later
    (each-weaker (λ s. NotAfter stack.frames s.frames) (λ s. begins_with p s.frames ≡ false) later
    (λ s after. ⊎_elim
    (λ (yes : begins_with p s.frames ≡ true). absurd (false≢true (sym not ∙ between p before stack.frames s.frames h after is yes)))
    (λ no. no) (cases_Bool (begins_with p s.frames)))
    (all_after stack.frames later rises))

along : (p before : Frames) (d : ℕ) (stacks : List Stacked) → length p ≡ suc d → begins_with p before ≡ true → Rises before stacks
    → count_where (begins_with p) stacks ≡ count_along d (neighbours_of before stacks)
along p before d [] size is rises = refl
along p before d (stack ∷ later) size is rises =
    let below = begins-below p before stack.frames d size is in
    along_at p before d stack later (begins_with p stack.frames) refl (sym below)
    (λ yes. along p stack.frames d later size yes rises.1)
    (λ no. none-begin p before stack later rises.0 rises.1 is no)

-- ---- a box

module _ (done later : List Stacked) (before : Frames) (stack : Stacked)
    (up_to : AllUpTo before done) (rises : Rises before (stack ∷ later))
    (d : ℕ) (low : shared_frames before stack.frames ≤ d) (high : d < length stack.frames) where
  size : length (take (suc d) stack.frames) ≡ suc d
  size = simp length-take (omega arith)

  starts : begins_with (take (suc d) stack.frames) stack.frames ≡ true
  starts = take-begins (suc d) stack.frames

  after_before : Before before (take (suc d) stack.frames)
  after_before = past-shared (suc d) before stack.frames rises.0 (omega arith) (omega arith)

  done_before : (s : Stacked) → NotAfter s.frames before → Before s.frames (take (suc d) stack.frames)
  done_before s h = not_after_before s.frames before (take (suc d) stack.frames) h after_before

  rest_after : AllAfter (take (suc d) stack.frames) (stack ∷ later)
  rest_after =
      let own = begins-not_after (take (suc d) stack.frames) stack.frames starts in (
        own,
        each-weaker (λ s. NotAfter stack.frames s.frames) (λ s. NotAfter (take (suc d) stack.frames) s.frames) later
            (λ s after. not_after_trans (take (suc d) stack.frames) stack.frames s.frames own after) (all_after stack.frames later rises.1),
      )

  left_is : count_where (is_before (take (suc d) stack.frames)) (done ++ stack ∷ later) ≡ total_of done
  left_is =
      let p = take (suc d) stack.frames in
      let both = counted-append (is_before p) done (stack ∷ later) in
      let all = all-counted (is_before p) done (each-weaker (λ s. NotAfter s.frames before) (λ s. is_before p s.frames ≡ true) done
      (λ s h. is_before-yes s.frames p (done_before s h)) up_to) in
      let none = none-counted (is_before p) (stack ∷ later) (each-weaker (λ s. NotAfter p s.frames) (λ s. is_before p s.frames ≡ false) (stack ∷ later)
      (λ s h. is_before-not_after s.frames p h) rest_after) in
      omega (arith, both, all, none)

  not_begun : (s : Stacked) → NotAfter s.frames before → begins_with (take (suc d) stack.frames) s.frames ≡ false
  not_begun s h =
      let p = take (suc d) stack.frames in
      ⊎_elim (λ (yes : begins_with p s.frames ≡ true).
      absurd (false≢true (sym (begins-not_before p s.frames yes) ∙ is_before-yes s.frames p (done_before s h))))
      (λ no. no) (cases_Bool (begins_with p s.frames))

  count_is : count_where (begins_with (take (suc d) stack.frames)) (done ++ stack ∷ later)
      ≡ stack.count + count_along d (neighbours_of stack.frames later)
  count_is =
      let p = take (suc d) stack.frames in
      let both = counted-append (begins_with p) done (stack ∷ later) in
      let none = none-counted (begins_with p) done (each-weaker (λ s. NotAfter s.frames before) (λ s. begins_with p s.frames ≡ false) done not_begun up_to) in
      let first = sum_by-cons (λ (s : Stacked). cond (begins_with p s.frames) s.count 0) stack later in
      let one : cond (begins_with p stack.frames) stack.count 0 ≡ stack.count = rw starts refl in
      let rest = along p stack.frames d later size starts rises.1 in
      omega (arith, both, none, first, one, rest)

  name_is : get_or (take (suc d) stack.frames) (length (take (suc d) stack.frames) - 1) [] ≡ get_or stack.frames d []
  name_is =
      let last : length (take (suc d) stack.frames) - 1 ≡ d = omega (arith, size) in
      ap (λ n. get_or (take (suc d) stack.frames) n []) last ∙ get_or-take (suc d) stack.frames d [] (omega arith)

  box_is : (left : ℕ) → left ≡ total_of done
      → record { name = get_or stack.frames d []; depth = d + 1; left = left; count = stack.count + count_along d (neighbours_of stack.frames later) }
      ≡ box_of (done ++ stack ∷ later) (take (suc d) stack.frames)
  box_is left is_left =
      let depth : length (take (suc d) stack.frames) ≡ d + 1 = omega (arith, size) in
      rw (name_is, depth, left_is, count_is, is_left) refl

-- ---- all boxes

-- the prefixes that begin at a stack, and at stacks
abbrev pub prefixes_at : Frames → List (List ℕ) → List Frames
prefixes_at before frames = map (λ d. take (suc d) frames) (range_with_len (shared_frames before frames) (length frames - shared_frames before frames))

abbrev pub prefixes_along : Frames → List Stacked → List Frames
prefixes_along before [] = []
prefixes_along before (stack ∷ later) = prefixes_at before stack.frames ++ prefixes_along stack.frames later

boxes_at-are : (done later : List Stacked) (before : Frames) (stack : Stacked) → AllUpTo before done → Rises before (stack ∷ later)
    → (left : ℕ) → left ≡ total_of done
    → boxes_at left stack.frames (record { shared = shared_frames before stack.frames; count = stack.count }) (neighbours_of stack.frames later)
    ≡ map (box_of (done ++ stack ∷ later)) (prefixes_at before stack.frames)
boxes_at-are done later before stack up_to rises left is_left =
    let from = shared_frames before stack.frames in
    map-range (λ d. record { name = get_or stack.frames d []; depth = d + 1; left = left; count = stack.count + count_along d (neighbours_of stack.frames later) })
    (λ d. box_of (done ++ stack ∷ later) (take (suc d) stack.frames)) from (length stack.frames - from)
    (λ d low high. box_is done later before stack up_to rises d low (omega arith) left is_left)
    ∙ sym (map-map (box_of (done ++ stack ∷ later)) (λ d. take (suc d) stack.frames) (range_with_len from (length stack.frames - from)))

up_to-more : (done : List Stacked) (before : Frames) (stack : Stacked) → AllUpTo before done → NotAfter before stack.frames
    → AllUpTo stack.frames (done ++ stack ∷ [])
up_to-more done before stack up_to h =
    each-append (λ s. NotAfter s.frames stack.frames) done (stack ∷ [])
    (each-weaker (λ s. NotAfter s.frames before) (λ s. NotAfter s.frames stack.frames) done
    (λ s k. not_after_trans s.frames before stack.frames k h) up_to)
    (not_after-itself stack.frames, tt)

pub boxes-are : (done stacks : List Stacked) (before : Frames) → AllUpTo before done → Rises before stacks
    → (left : ℕ) → left ≡ total_of done
    → boxes_along left before stacks ≡ map (box_of (done ++ stacks)) (prefixes_along before stacks)
boxes-are done [] before up_to rises left is_left = refl
boxes-are done (stack ∷ later) before up_to rises left is_left =
    let here = boxes_at-are done later before stack up_to rises left is_left in
    let next : left + stack.count ≡ total_of (done ++ stack ∷ []) = omega (arith, sum_by_push (λ (s : Stacked). s.count) done stack) in
    let rest = boxes-are (done ++ stack ∷ []) later stack.frames (up_to-more done before stack up_to rises.0) rises.1 (left + stack.count) next in
    let joined : (done ++ stack ∷ []) ++ later ≡ done ++ stack ∷ later = append_assoc done (stack ∷ []) later in
    let rest_all = rest ∙ ap (λ all. map (box_of all) (prefixes_along stack.frames later)) joined in
    ap (λ boxes. boxes ++ boxes_along (left + stack.count) stack.frames later) here
    ∙ ap (λ boxes. map (box_of (done ++ stack ∷ later)) (prefixes_at before stack.frames) ++ boxes) rest_all
    ∙ sym (map-append (box_of (done ++ stack ∷ later)) (prefixes_at before stack.frames) (prefixes_along stack.frames later))

-- ---- the prefixes

all_before : (before : Frames) (stacks : List Stacked) → Rises before stacks → AllByRecursion (λ q. Before before q) (prefixes_along before stacks)
all_before before [] rises = tt
all_before before (stack ∷ later) rises =
    let from = shared_frames before stack.frames in
    each-append (λ q. Before before q) (prefixes_at before stack.frames) (prefixes_along stack.frames later)
    (each-range (λ q. Before before q) (λ d. take (suc d) stack.frames) from (length stack.frames - from)
    (λ d low high. past-shared (suc d) before stack.frames rises.0 (omega arith) (omega arith)))
    (each-weaker (λ q. Before stack.frames q) (λ q. Before before q) (prefixes_along stack.frames later)
    (λ q h. not_after_before before stack.frames q rises.0 h) (all_before stack.frames later rises.1))

pub prefixes-rise : (before : Frames) (stacks : List Stacked) → Rises before stacks → IsStrictlySortedBy compare_stacks (prefixes_along before stacks)
unfolding IsStrictlySortedBy
prefixes-rise before [] rises = tt
prefixes-rise before (stack ∷ later) rises =
    let from = shared_frames before stack.frames in
    let ys = prefixes_along stack.frames later in
    sorted-append compare_stacks (prefixes_at before stack.frames) ys
    (sorted-range compare_stacks (λ d. take (suc d) stack.frames) from (length stack.frames - from)
    (λ d e low less high. take-rises (suc d) (suc e) stack.frames (omega arith) (omega arith)))
    (prefixes-rise stack.frames later rises.1)
    (each-range (λ x. AllByRecursion (λ y. compare_stacks x y ≡ Less) ys) (λ d. take (suc d) stack.frames) from (length stack.frames - from)
    (λ d low high. each-weaker (λ q. Before stack.frames q) (λ q. Before (take (suc d) stack.frames) q) ys
    (λ q h. not_after_before (take (suc d) stack.frames) stack.frames q
    (begins-not_after (take (suc d) stack.frames) stack.frames (take-begins (suc d) stack.frames)) h)
    (all_before stack.frames later rises.1)))

pub prefixes-sound : (before : Frames) (stacks : List Stacked) (q : Frames) → Contains (prefixes_along before stacks) q → IsPrefix stacks q
prefixes-sound before [] q (k, below, is) = absurd (omega arith)
prefixes-sound before (stack ∷ later) q h =
    let from = shared_frames before stack.frames in
    ⊎_elim (λ (here : Contains (prefixes_at before stack.frames) q).
    let (d, low, high, is) = from-range (λ d. take (suc d) stack.frames) from (length stack.frames - from) q here in
    let size : length (take (suc d) stack.frames) ≡ suc d = simp length-take (omega arith) in
    let long : 0 < length q = omega (arith, size, ap length is) in
    let begins : begins_with q stack.frames ≡ true = ap (λ p. begins_with p stack.frames) is ∙ take-begins (suc d) stack.frames in
    (long, or_left (begins_with q stack.frames) (list_any (λ s. begins_with q s.frames) later) begins))
    (λ (rest : Contains (prefixes_along stack.frames later) q).
    let found = prefixes-sound stack.frames later q rest in
    (found.0, or_right (begins_with q stack.frames) (list_any (λ s. begins_with q s.frames) later) found.1))
    (Contains-append_cases (prefixes_at before stack.frames) (prefixes_along stack.frames later) q h)

-- a prefix of a stack begins there, or is one of the stack before it
begun : (before : Frames) (stack : Stacked) (later : List Stacked) (q : Frames) → 0 < length q → begins_with q stack.frames ≡ true
    → Contains (prefixes_along before (stack ∷ later)) q ⊎ (begins_with q before ≡ true)
begun before stack later q some is =
    let from = shared_frames before stack.frames in
    let fits = begins-length q stack.frames is in
    let front = begins-take q stack.frames is in
    ⊎_elim (λ (new : from < length q).
    let d = length q - 1 in
    let n : suc d ≡ length q = omega arith in
    let place = contains-range (λ e. take (suc e) stack.frames) from (length stack.frames - from) d (omega arith) (omega arith) in
    let same : take (suc d) stack.frames ≡ q = ap (λ m. take m stack.frames) n ∙ sym front in
    let P : Frames → Type 0 = λ p. Contains (prefixes_at before stack.frames) p in
    inl (Contains-append_left (prefixes_at before stack.frames) (prefixes_along stack.frames later) q (subst P same place)))
    (λ (old : length q ≤ from).
    let within = common_prefix_len-le bytes_eq before stack.frames in
    let both : begins_with (take (length q) before) stack.frames ≡ true =
    begins-shared (length q) before stack.frames (omega (arith, within.0)) ∙ le-leb (length q) from old in
    let size : length (take (length q) before) ≡ length q = simp length-take (omega (arith, within.0)) in
    let same : take (length q) before ≡ q =
    begins-take (take (length q) before) stack.frames both ∙ ap (λ n. take n stack.frames) size ∙ sym front in
    inr (ap (λ p. begins_with p before) (sym same) ∙ take-begins (length q) before))
    (cases_lt from (length q))

complete_from : (before : Frames) (stacks : List Stacked) (q : Frames) → 0 < length q → list_any (λ s. begins_with q s.frames) stacks ≡ true
    → Contains (prefixes_along before stacks) q ⊎ (begins_with q before ≡ true)
complete_from before [] q some h = absurd (false≢true h)
complete_from before (stack ∷ later) q some h =
    ⊎_elim (λ (here : begins_with q stack.frames ≡ true). begun before stack later q some here)
    (λ (rest : list_any (λ s. begins_with q s.frames) later ≡ true).
    ⊎_elim (λ (found : Contains (prefixes_along stack.frames later) q).
    inl (Contains-append_right (prefixes_at before stack.frames) (prefixes_along stack.frames later) q found))
    (λ (here : begins_with q stack.frames ≡ true). begun before stack later q some here)
    (complete_from stack.frames later q some rest))
    (or_cases (begins_with q stack.frames) (list_any (λ s. begins_with q s.frames) later) h)

none_begins : (q : Frames) → 0 < length q → begins_with q [] ≡ true → ⊥
none_begins [] some h = omega arith
none_begins (f ∷ q) some h = false≢true h

pub prefixes-complete : (stacks : List Stacked) (q : Frames) → IsPrefix stacks q → Contains (prefixes_along [] stacks) q
prefixes-complete stacks q (some, any) =
    ⊎_elim (λ (found : Contains (prefixes_along [] stacks) q). found) (λ (no : begins_with q [] ≡ true). absurd (none_begins q some no))
    (complete_from [] stacks q some any)

pub prefixes-are : (stacks : List Stacked) → Rises [] stacks → ArePrefixes stacks (prefixes_along [] stacks)
prefixes-are stacks rises = record {
  rising = prefixes-rise [] stacks rises;
  sound = λ q h. prefixes-sound [] stacks q h;
  complete = λ q h. prefixes-complete stacks q h;
}

-- ---- boxes end within the picture

beside_at : (a b : Bool) (c : ℕ) → (b ≡ true → a ≡ false) → cond a c 0 + cond b c 0 ≤ c
beside_at true true c not = absurd (false≢true (sym (not refl)))
beside_at true false c not = omega arith
beside_at false true c not = omega arith
beside_at false false c not = omega arith

pub beside : (p : Frames) (stacks : List Stacked) → count_where (is_before p) stacks + count_where (begins_with p) stacks ≤ total_of stacks
beside p [] = omega arith
beside p (stack ∷ later) =
    let left = sum_by-cons (λ (s : Stacked). cond (is_before p s.frames) s.count 0) stack later in
    let own = sum_by-cons (λ (s : Stacked). cond (begins_with p s.frames) s.count 0) stack later in
    let all = sum_by-cons (λ (s : Stacked). s.count) stack later in
    let here = beside_at (is_before p stack.frames) (begins_with p stack.frames) stack.count (λ yes. begins-not_before p stack.frames yes) in
    let rest = beside p later in
    omega (arith, left, own, all, here, rest)

-- ---- the order of the stacks does not matter

module _ (xs ys : List Stacked) (same : IsPermutation xs ys) where
  pub counted-permuted : (test : Frames → Bool) → count_where test ys ≡ count_where test xs
  counted-permuted test = sum_by-IsPermutation (λ (s : Stacked). cond (test s.frames) s.count 0) xs ys same

  pub total-permuted : total_of ys ≡ total_of xs
  total-permuted = sum_by-IsPermutation (λ (s : Stacked). s.count) xs ys same

  box-permuted : (p : Frames) → box_of ys p ≡ box_of xs p
  box-permuted p = rw (counted-permuted (is_before p), counted-permuted (begins_with p)) refl

  map-permuted : (prefixes : List Frames) → map (box_of ys) prefixes ≡ map (box_of xs) prefixes
  map-permuted [] = refl
  map-permuted (p ∷ prefixes) = ap (λ box. box ∷ map (box_of ys) prefixes) (box-permuted p) ∙ ap (λ boxes. box_of xs p ∷ boxes) (map-permuted prefixes)

  pub boxes-permuted : (prefixes : List Frames) → boxes_of ys prefixes ≡ boxes_of xs prefixes
  boxes-permuted prefixes = rw (total-permuted, map-permuted prefixes) refl

  any-permuted : (p : Frames) → list_any (λ s. begins_with p s.frames) xs ≡ list_any (λ s. begins_with p s.frames) ys
  any-permuted p = list_any-IsPermutation (λ s. begins_with p s.frames) xs ys same

  pub prefixes-permuted : (prefixes : List Frames) → ArePrefixes ys prefixes → ArePrefixes xs prefixes
  prefixes-permuted prefixes are = record {
    rising = are.rising;
    sound = λ p h. let found = are.sound p h in (found.0, any-permuted p ∙ found.1);
    complete = λ p h. are.complete p (h.0, sym (any-permuted p) ∙ h.1);
  }

-- ---- the boxes of lines, by their stacks in order

module _ (lines stacks : List Stacked) (same : IsPermutation lines stacks) (rises : Rises [] stacks) where
  pub found : root_of stacks ∷ boxes_along 0 [] stacks ≡ boxes_of lines (prefixes_along [] stacks)
  found =
      ap (λ boxes. root_of stacks ∷ boxes) (boxes-are [] stacks [] tt rises 0 refl)
      ∙ boxes-permuted lines stacks same (prefixes_along [] stacks)

  pub found-prefixes : ArePrefixes lines (prefixes_along [] stacks)
  found-prefixes = prefixes-permuted lines stacks same (prefixes_along [] stacks) (prefixes-are stacks rises)

all-beside : (stacks : List Stacked) (prefixes : List Frames) → AllByRecursion (λ (box : Box). box.left + box.count ≤ total_of stacks) (map (box_of stacks) prefixes)
all-beside stacks [] = tt
all-beside stacks (p ∷ prefixes) = (beside p stacks, all-beside stacks prefixes)

pub boxes-within : (stacks : List Stacked) (prefixes : List Frames) → All (λ (box : Box). box.left + box.count ≤ total_of stacks) (boxes_of stacks prefixes)
boxes-within stacks prefixes =
    All-from_recursion (λ (box : Box). box.left + box.count ≤ total_of stacks) (boxes_of stacks prefixes) (omega arith, all-beside stacks prefixes)
