-- The modules in order of start, around the place of an address.
use Rattle.std.proofs.Common.{◌≡◌, None, ℕ, zero, suc, ◌+◌, ◌<◌, ◌≤◌, Bool, true, false, not, List, [], ◌∷◌, length, take, drop, filter, slice_index_or, refl, ap, sym, arith, insert, remove, leb-true, leb-false, le-leb, eq-eqb, ne_eqb, ◌==◌, ⊎_elim}
use Rattle.std.proofs.lemmas.Bool.{cases_lt, or_right, lt-leb}
use Rattle.std.proofs.lemmas.List.{get_or-map, length-map}
use Rattle.std.proofs.lemmas.List.Edits.{get_or-remove_below, get_or-remove_above}
use Rattle.std.specs.List.Sorted.{IsNonDecreasing, IsPartitionPoint}
use Rattle.std.proofs.lemmas.List.Sorted.{IsNonDecreasingBy-insert}
use Rattle.framehop.specs.Modules.{ModuleView, AreInOrder, starts_of, has_start, without_module, starts_by, starting_by, starting_above, no_unwind_data}

-- ---- a list that a test divides at a place

module _ {A : Type 0} (test : A → Bool) where
  none-pass : (xs : List A) → ((k : ℕ) (d : A) → k < length xs → test (slice_index_or xs k d) ≡ false) → filter test xs ≡ []
  none-pass [] h = refl
  none-pass (x ∷ xs) h =
      let here : test x ≡ false = h 0 x (omega arith) in
      let rest = none-pass xs (λ k d within. h (suc k) d (omega arith)) in
      rw (here, rest) refl

  all-pass : (xs : List A) → ((k : ℕ) (d : A) → k < length xs → test (slice_index_or xs k d) ≡ true) → filter test xs ≡ xs
  all-pass [] h = refl
  all-pass (x ∷ xs) h =
      let here : test x ≡ true = h 0 x (omega arith) in
      let rest = all-pass xs (λ k d within. h (suc k) d (omega arith)) in
      rw (here, rest) refl

  pub filter-divided : (xs : List A) (i : ℕ) → ((k : ℕ) (d : A) → k < i → test (slice_index_or xs k d) ≡ true) → ((k : ℕ) (d : A) → i ≤ k → k < length xs → test (slice_index_or xs k d) ≡ false) → filter test xs ≡ take i xs
  filter-divided [] zero before behind = refl
  filter-divided [] (suc i) before behind = refl
  filter-divided (x ∷ xs) zero before behind = none-pass (x ∷ xs) (λ k d within. behind k d (omega arith) within)
  filter-divided (x ∷ xs) (suc i) before behind =
      let here : test x ≡ true = before 0 x (omega arith) in
      let rest = filter-divided xs i (λ k d h. before (suc k) d (omega arith)) (λ k d h within. behind (suc k) d (omega arith) (omega arith)) in
      rw (here, rest) refl

  pub filter-behind : (xs : List A) (i : ℕ) → ((k : ℕ) (d : A) → k < i → test (slice_index_or xs k d) ≡ false) → ((k : ℕ) (d : A) → i ≤ k → k < length xs → test (slice_index_or xs k d) ≡ true) → filter test xs ≡ drop i xs
  filter-behind [] zero before behind = refl
  filter-behind [] (suc i) before behind = refl
  filter-behind (x ∷ xs) zero before behind = all-pass (x ∷ xs) (λ k d within. behind k d (omega arith) within)
  filter-behind (x ∷ xs) (suc i) before behind =
      let here : test x ≡ false = before 0 x (omega arith) in
      let rest = filter-behind xs i (λ k d h. before (suc k) d (omega arith)) (λ k d h within. behind (suc k) d (omega arith) (omega arith)) in
      rw (here, rest) refl

module _ (address : ℕ) (modules : List ModuleView) (i : ℕ) (point : IsPartitionPoint (λ m. starts_by address m ≡ true) (λ m. starts_by address m ≡ false) modules i) where
  pub taken-starting_by : take i modules ≡ starting_by address modules
  taken-starting_by = sym (filter-divided (starts_by address) modules i (λ k d h. point.0 k d (omega arith) h) point.1)

  pub dropped-starting_above : drop i modules ≡ starting_above address modules
  dropped-starting_above =
      sym (filter-behind (λ m. not (starts_by address m)) modules i (λ k d h. ap not (point.0 k d (omega arith) h)) (λ k d h within. ap not (point.1 k d h within)))

-- ---- the starts of a list

-- the start at an index
pub start-of : (modules : List ModuleView) (k : ℕ) (d : ModuleView) (e : ℕ) → k < length modules → slice_index_or (starts_of modules) k e ≡ (slice_index_or modules k d).start
start-of modules k d e within = get_or-map (λ m. m.start) modules k d e within

pub starts_of-inserted : (modules : List ModuleView) (i : ℕ) (m : ModuleView) → starts_of (insert modules i m) ≡ insert (starts_of modules) i m.start
starts_of-inserted [] zero m = refl
starts_of-inserted [] (suc i) m = refl
starts_of-inserted (n ∷ modules) zero m = refl
starts_of-inserted (n ∷ modules) (suc i) m = ap (λ starts. n.start ∷ starts) (starts_of-inserted modules i m)

pub starts_of-removed : (modules : List ModuleView) (i : ℕ) → starts_of (remove modules i) ≡ remove (starts_of modules) i
starts_of-removed [] zero = refl
starts_of-removed [] (suc i) = refl
starts_of-removed (n ∷ modules) zero = refl
starts_of-removed (n ∷ modules) (suc i) = ap (λ starts. n.start ∷ starts) (starts_of-removed modules i)

-- the starts don't fall, and a place that divides them divides the modules
pub starts-in-order : (modules : List ModuleView) → AreInOrder modules → IsNonDecreasing (starts_of modules)
starts-in-order modules ordered i j d up within =
    let all : length (starts_of modules) ≡ length modules = length-map modules (λ m. m.start) in
    let within' : j < length modules = rw (← all) within in
    let unread : ModuleView = record { name = []; start = 0; end = 0; base_avma = 0; unwind_data = no_unwind_data None } in
    rw (start-of modules i unread d (omega (arith, up, within')), start-of modules j unread d within') (ordered i j unread up within')

pub point-of-starts : (address : ℕ) (modules : List ModuleView) (place : ℕ) → place ≤ length modules → IsPartitionPoint (λ start. start ≤ address) (λ start. address < start) (starts_of modules) place → IsPartitionPoint (λ m. starts_by address m ≡ true) (λ m. starts_by address m ≡ false) modules place
point-of-starts address modules place most point =
    let all : length (starts_of modules) ≡ length modules = length-map modules (λ m. m.start) in (
      λ k d low up. le-leb _ _ (rw (start-of modules k d 0 (omega (arith, up, most))) at (point.0 k 0 low up)),
      λ k d up within. lt-leb _ _ (rw (start-of modules k d 0 within) at (point.1 k 0 up (rw all within))),
    )

-- ---- the list stays in order

-- the list stays in order with a module after those that start by its start
pub AreInOrder-inserted : (modules : List ModuleView) (i : ℕ) (m : ModuleView) → AreInOrder modules → i ≤ length modules → IsPartitionPoint (λ n. starts_by m.start n ≡ true) (λ n. starts_by m.start n ≡ false) modules i → AreInOrder (insert modules i m)
AreInOrder-inserted modules i m ordered within point =
    IsNonDecreasingBy-insert (λ n. n.start) modules i m ordered within
    (λ k d h. leb-true _ _ (point.0 k d (omega arith) h))
    (λ k d low h. let above = leb-false _ _ (point.1 k d low h) in omega arith)

-- and without one of them
pub AreInOrder-removed : (modules : List ModuleView) (i : ℕ) → AreInOrder modules → i < length modules → length (remove modules i) + 1 ≡ length modules → AreInOrder (remove modules i)
AreInOrder-removed modules i ordered within shorter j k d up inside =
    ⊎_elim
    (λ (below : k < i).
    let first = get_or-remove_below modules i d j (omega arith) within in
    let second = get_or-remove_below modules i d k below within in
    rw (first, second) (ordered j k d up (omega arith)))
    (λ (from : i ≤ k).
    let second = get_or-remove_above modules i d k from within in
    ⊎_elim
    (λ (below : j < i).
    let first = get_or-remove_below modules i d j below within in
    rw (first, second) (ordered j (k + 1) d (omega arith) (omega arith)))
    (λ (from' : i ≤ j).
    let first = get_or-remove_above modules i d j from' within in
    rw (first, second) (ordered (j + 1) (k + 1) d (omega arith) (omega arith)))
    (cases_lt j i))
    (cases_lt k i)

-- ---- the last module of a start

-- no module has the start
absent-start : (start : ℕ) (modules : List ModuleView) → ((k : ℕ) (d : ModuleView) → k < length modules → (slice_index_or modules k d).start ≡ start → ⊥) → has_start start modules ≡ false
absent-start start [] none = refl
absent-start start (m ∷ modules) none =
    let here : (m.start == start) ≡ false = ne_eqb _ _ (none 0 m (omega arith)) in
    let rest = absent-start start modules (λ k d within. none (suc k) d (omega arith)) in
    rw (here, rest) refl

-- the module at a place has the start, and none after it
pub last-start : (start : ℕ) (modules : List ModuleView) (i : ℕ) (d : ModuleView) → i < length modules → (slice_index_or modules i d).start ≡ start → ((k : ℕ) (d : ModuleView) → i < k → k < length modules → (slice_index_or modules k d).start ≡ start → ⊥) → (has_start start modules ≡ true) × (remove modules i ≡ without_module start modules)
last-start start [] i d within is none = absurd (omega arith)
last-start start (m ∷ modules) zero d within is none =
    let here : (m.start == start) ≡ true = eq-eqb _ _ is in
    let rest : has_start start modules ≡ false = absent-start start modules (λ k e inside. none (suc k) e (omega arith) (omega arith)) in
    (rw here refl, rw (rest, here) refl)
last-start start (m ∷ modules) (suc i) d within is none =
    let rest = last-start start modules i d (omega arith) is (λ k e behind inside. none (suc k) e (omega arith) (omega arith)) in
    (or_right (m.start == start) (has_start start modules) rest.0, rw rest.0 (ap (λ others. m ∷ others) rest.1))

module _ (start : ℕ) (modules : List ModuleView) (i : ℕ) (point : IsPartitionPoint (λ m. starts_by start m ≡ true) (λ m. starts_by start m ≡ false) modules i) where
  -- after the place no module has the start
  above-start : (k : ℕ) (d : ModuleView) → i ≤ k → k < length modules → (slice_index_or modules k d).start ≡ start → ⊥
  above-start k d behind within is = let above = leb-false _ _ (point.1 k d behind within) in absurd (omega arith)

  pub no-start : i ≡ 0 → has_start start modules ≡ false
  no-start none = absent-start start modules (λ k d within is. above-start k d (omega arith) within is)

  pub start-at : (j : ℕ) (d : ModuleView) → j + 1 ≡ i → j < length modules → (slice_index_or modules j d).start ≡ start → (has_start start modules ≡ true) × (remove modules j ≡ without_module start modules)
  start-at j d last within is =
      last-start start modules j d within is (λ k e behind inside. above-start k e (omega arith) inside)

  -- before the last module that starts by it, no module has the start unless that one does
  below-start : AreInOrder modules → (j k : ℕ) (d : ModuleView) → j + 1 ≡ i → j < length modules → ((d : ModuleView) → (slice_index_or modules j d).start ≡ start → ⊥) → k ≤ j → (slice_index_or modules k d).start ≡ start → ⊥
  below-start ordered j k d last within other front is =
      let reached = leb-true _ _ (point.0 j d (omega arith) (omega arith)) in
      let risen = ordered k j d front within in
      other d (omega arith)

  pub start-nowhere : AreInOrder modules → (j : ℕ) → j + 1 ≡ i → j < length modules → ((d : ModuleView) → (slice_index_or modules j d).start ≡ start → ⊥) → has_start start modules ≡ false
  start-nowhere ordered j last within other =
      absent-start start modules (λ k d inside is.
      ⊎_elim
      (λ (behind : j < k). above-start k d (omega arith) inside is)
      (λ (front : k ≤ j). below-start ordered j k d last within other front is)
      (cases_lt j k))
