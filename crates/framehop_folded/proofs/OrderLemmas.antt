-- The order of stacks, and the frames with which they begin.
use Rattle.std.proofs.Common.{◌≡◌, ℕ, Bool, true, false, List, [], ◌∷◌, ◌+◌, ◌<◌, ◌≤◌, suc, length, take, refl, ap, sym, ◌∙◌, subst, arith, Ordering}
use Rattle.std.specs.Prelude.{◌&&◌, leb, zero}
use Rattle.std.specs.Cmp.{IsTotalOrder}
use Rattle.std.specs.Ordering.{is_lt, is_gt, is_eq, ordering_then, ordering_reverse}
use Rattle.std.specs.declared.cmp.Ordering.TheVariants.{Less, Equal, Greater}
use Rattle.std.specs.Str.{bytes_eq}
use Rattle.std.proofs.lemmas.Bool.{false≢true, and_parts, le-leb, lt-leb}
use Rattle.std.proofs.lemmas.Bool.Decides.{nat_tests}
use Rattle.std.proofs.lemmas.Cmp.{lists_total, nat_list_cmp_total, upto, tied_itself, alike_right}
use Rattle.std.proofs.lemmas.Map.Lookups.{exact_bytes}
use Rattle.std.proofs.lemmas.Map.Text.{is_eq-slice_cmp}
use Rattle.framehop_folded.specs.FlameGraph.Stacks.{compare_frames, compare_stacks, is_before, begins_with}
use Rattle.framehop_folded.specs.FlameGraph.Sweep.{shared_frames}

abbrev pub Frames : Type 0
Frames = List (List ℕ)

abbrev pub Before : Frames → Frames → Type 0
Before s t = compare_stacks s t ≡ Less

abbrev pub NotAfter : Frames → Frames → Type 0
NotAfter s t = is_gt (compare_stacks s t) ≡ false

pub stacks_total : IsTotalOrder compare_stacks
stacks_total = lists_total nat_list_cmp_total

pub frames_total : IsTotalOrder compare_frames
frames_total = nat_list_cmp_total

-- ---- chains

pub not_after_trans : (s t u : Frames) → NotAfter s t → NotAfter t u → NotAfter s u
not_after_trans s t u h k = upto stacks_total s t u h k

pub not_after_before : (s t u : Frames) → NotAfter s t → Before t u → Before s u
not_after_before s t u h k = by (compare_stacks s t) refl
  where
    by : (o : Ordering) → compare_stacks s t ≡ o → Before s u
    by Less e = stacks_total.trans s t u e k
    by Equal e = stacks_total.congr s t u e ∙ k
    by Greater e = absurd (false≢true (sym h ∙ ap is_gt e))

pub before_not_after : (s t u : Frames) → Before s t → NotAfter t u → Before s u
before_not_after s t u h k = by (compare_stacks t u) refl
  where
    by : (o : Ordering) → compare_stacks t u ≡ o → Before s u
    by Less e = stacks_total.trans s t u h e
    by Equal e = sym (alike_right stacks_total t u s e) ∙ h
    by Greater e = absurd (false≢true (sym k ∙ ap is_gt e))

pub not_after-before : (s t : Frames) → Before s t → NotAfter s t
not_after-before s t h = ap is_gt h

pub not_after-itself : (s : Frames) → NotAfter s s
not_after-itself s = ap is_gt (tied_itself stacks_total s)

pub before-trans : (s t u : Frames) → Before s t → Before t u → Before s u
before-trans s t u h k = stacks_total.trans s t u h k

pub is_before-yes : (s p : Frames) → Before s p → is_before p s ≡ true
is_before-yes s p h = ap is_lt h

reversed : (o : Ordering) → is_lt (ordering_reverse o) ≡ is_gt o
reversed Less = refl
reversed Equal = refl
reversed Greater = refl

-- what is not after another list is not before it the other way
pub is_before-not_after : (s p : Frames) → NotAfter p s → is_before p s ≡ false
is_before-not_after s p h = ap is_lt (stacks_total.antisymm s p) ∙ reversed (compare_stacks p s) ∙ h

-- ---- equal frames

equal_from : (o : Ordering) → is_eq o ≡ true → o ≡ Equal
equal_from Less e = absurd (false≢true e)
equal_from Equal e = refl
equal_from Greater e = absurd (false≢true e)

pub same_frame : (x y : List ℕ) → bytes_eq x y ≡ true → x ≡ y
same_frame x y e = exact_bytes x y (equal_from (compare_frames x y) (is_eq-slice_cmp x y ∙ e))

pub bytes_eq-itself : (x : List ℕ) → bytes_eq x x ≡ true
bytes_eq-itself x = sym (is_eq-slice_cmp x x) ∙ ap is_eq (tied_itself frames_total x)

-- lists that begin with the same frame are in the order of the rest
pub compare-same : (x : List ℕ) (s t : Frames) → compare_stacks (x ∷ s) (x ∷ t) ≡ compare_stacks s t
compare-same x s t = ap (λ o. ordering_then o (compare_stacks s t)) (tied_itself frames_total x)

pub begins-same : (x : List ℕ) (p s : Frames) → begins_with (x ∷ p) (x ∷ s) ≡ begins_with p s
begins-same x p s = ap (λ b. b && begins_with p s) (bytes_eq-itself x)

-- the parts of a list that begins with another
pub begins-cons : (f g : List ℕ) (p s : Frames) → begins_with (f ∷ p) (g ∷ s) ≡ true → (f ≡ g) × (begins_with p s ≡ true)
begins-cons f g p s h = let both = and_parts (bytes_eq f g) (begins_with p s) h in (same_frame f g both.0, both.1)

-- ---- prefixes

-- a list is not after those that begin with it
pub begins-not_after : (p s : Frames) → begins_with p s ≡ true → NotAfter p s
begins-not_after [] [] h = refl
begins-not_after [] (g ∷ s) h = refl
begins-not_after (f ∷ p) [] h = absurd (false≢true h)
begins-not_after (f ∷ p) (g ∷ s) h =
    let parts = begins-cons f g p s h in
    let P : List ℕ → Type 0 = λ x. NotAfter (f ∷ p) (x ∷ s) in
    subst P parts.0 (ap is_gt (compare-same f p s) ∙ begins-not_after p s parts.1)

pub begins-not_before : (p s : Frames) → begins_with p s ≡ true → is_before p s ≡ false
begins-not_before p s h = is_before-not_after s p (begins-not_after p s h)

pub take-begins : (n : ℕ) (s : Frames) → begins_with (take n s) s ≡ true
take-begins zero s = refl
take-begins (suc n) [] = refl
take-begins (suc n) (x ∷ s) = begins-same x (take n s) s ∙ take-begins n s

pub begins-take : (p s : Frames) → begins_with p s ≡ true → p ≡ take (length p) s
begins-take [] s h = refl
begins-take (f ∷ p) [] h = absurd (false≢true h)
begins-take (f ∷ p) (g ∷ s) h =
    let parts = begins-cons f g p s h in
    ap (λ x. x ∷ p) parts.0 ∙ ap (λ rest. g ∷ rest) (begins-take p s parts.1)

pub begins-length : (p s : Frames) → begins_with p s ≡ true → length p ≤ length s
begins-length [] s h = omega arith
begins-length (f ∷ p) [] h = absurd (false≢true h)
begins-length (f ∷ p) (g ∷ s) h = let rest = begins-length p s (begins-cons f g p s h).1 in omega arith

-- the shorter of two prefixes of a list is before the longer
pub take-rises : (m n : ℕ) (s : Frames) → m < n → n ≤ length s → Before (take m s) (take n s)
take-rises zero zero s h k = absurd (omega arith)
take-rises zero (suc n) [] h k = absurd (omega arith)
take-rises zero (suc n) (x ∷ s) h k = refl
take-rises (suc m) zero s h k = absurd (omega arith)
take-rises (suc m) (suc n) [] h k = absurd (omega arith)
take-rises (suc m) (suc n) (x ∷ s) h k = compare-same x (take m s) (take n s) ∙ take-rises m n s (omega arith) (omega arith)

-- ---- what lies between two lists that begin with a prefix begins with it

between_at : (f k : List ℕ) (p s t u : Frames) (o : Ordering) → compare_frames f k ≡ o
    → is_gt (ordering_then o (compare_stacks s t)) ≡ false → NotAfter (k ∷ t) (f ∷ u)
    → (NotAfter s t → NotAfter t u → begins_with p t ≡ true) → begins_with (f ∷ p) (k ∷ t) ≡ true
between_at f k p s t u Less e h j rest =
    let back : compare_frames k f ≡ Greater = frames_total.antisymm k f ∙ ap ordering_reverse e in
    absurd (false≢true (sym j ∙ ap (λ o. is_gt (ordering_then o (compare_stacks t u))) back))
between_at f k p s t u Equal e h j rest =
    let same : f ≡ k = exact_bytes f k e in
    let P : List ℕ → Type 0 = λ x. NotAfter (x ∷ t) (f ∷ u) → begins_with (f ∷ p) (x ∷ t) ≡ true in
    let here : NotAfter (f ∷ t) (f ∷ u) → begins_with (f ∷ p) (f ∷ t) ≡ true =
    (λ (later : NotAfter (f ∷ t) (f ∷ u)). begins-same f p t ∙ rest h (sym (ap is_gt (compare-same f t u)) ∙ later)) in
    subst P same here j
between_at f k p s t u Greater e h j rest = absurd (false≢true (sym h))

pub between : (p s t u : Frames) → NotAfter s t → NotAfter t u → begins_with p s ≡ true → begins_with p u ≡ true → begins_with p t ≡ true
between [] s t u h k a b = refl
between (f ∷ p) [] t u h k a b = absurd (false≢true a)
between (f ∷ p) (g ∷ s) t [] h k a b = absurd (false≢true b)
between (f ∷ p) (g ∷ s) [] (x ∷ u) h k a b = absurd (false≢true (sym h))
between (f ∷ p) (g ∷ s) (y ∷ t) (x ∷ u) h k a b =
    let first = begins-cons f g p s a in
    let last = begins-cons f x p u b in
    let P : List ℕ → Type 0 = λ z. NotAfter (z ∷ s) (y ∷ t) in
    let Q : List ℕ → Type 0 = λ z. NotAfter (y ∷ t) (z ∷ u) in
    between_at f y p s t u (compare_frames f y) refl (subst P (sym first.0) h) (subst Q (sym last.0) k)
    (λ after before. between p s t u after before first.1 last.1)

-- ---- frames that two lists share

shared_at : (f g : List ℕ) (s t : Frames) (n : ℕ) (b : Bool) → bytes_eq f g ≡ b
    → begins_with (take n s) t ≡ leb n (shared_frames s t)
    → begins_with (f ∷ take n s) (g ∷ t) ≡ leb (suc n) (shared_frames (f ∷ s) (g ∷ t))
shared_at f g s t n true e rest = rw (e, rest) (grind (arith, nat_tests))
shared_at f g s t n false e rest = rw e (sym (lt-leb (suc n) 0 (omega arith)))

pub begins-shared : (n : ℕ) (s t : Frames) → n ≤ length s → begins_with (take n s) t ≡ leb n (shared_frames s t)
begins-shared zero s t h = sym (le-leb 0 (shared_frames s t) (omega arith))
begins-shared (suc n) [] t h = absurd (omega arith)
begins-shared (suc n) (f ∷ s) [] h = sym (lt-leb (suc n) 0 (omega arith))
begins-shared (suc n) (f ∷ s) (g ∷ t) h = shared_at f g s t n (bytes_eq f g) refl (begins-shared n s t (omega arith))

past_at : (f g : List ℕ) (s t : Frames) (n : ℕ) (o : Ordering) → compare_frames f g ≡ o
    → is_gt (ordering_then o (compare_stacks s t)) ≡ false → shared_frames (f ∷ s) (g ∷ t) < suc n
    → (NotAfter s t → shared_frames s t < n → Before s (take n t)) → ordering_then o (compare_stacks s (take n t)) ≡ Less
past_at f g s t n Less e h k rest = refl
past_at f g s t n Equal e h k rest =
    let same : bytes_eq f g ≡ true = sym (is_eq-slice_cmp f g) ∙ ap is_eq e in
    let shared : shared_frames (f ∷ s) (g ∷ t) ≡ 1 + shared_frames s t = rw same refl in
    rest h (omega arith)
past_at f g s t n Greater e h k rest = absurd (false≢true (sym h))

-- a list is before the prefixes of a later one that are longer than what both share
pub past-shared : (n : ℕ) (s t : Frames) → NotAfter s t → shared_frames s t < n → n ≤ length t → Before s (take n t)
past-shared zero s t h k fits = absurd (omega arith)
past-shared (suc n) [] [] h k fits = absurd (omega arith)
past-shared (suc n) [] (g ∷ t) h k fits = refl
past-shared (suc n) (f ∷ s) [] h k fits = absurd (omega arith)
past-shared (suc n) (f ∷ s) (g ∷ t) h k fits =
    let e : compare_frames f g ≡ compare_frames f g = refl in
    past_at f g s t n (compare_frames f g) e h k (λ later less. past-shared n s t later less (omega arith))
