-- The modules of mappings while they take the place of those of others, in order of start.
use Rattle.std.proofs.Common.{
  ◌≡◌,
  ℕ,
  zero,
  suc,
  ◌+◌,
  ◌<◌,
  ◌≤◌,
  true,
  false,
  ◌==◌,
  List,
  [],
  ◌∷◌,
  ◌++◌,
  length,
  take,
  drop,
  map,
  slice_get,
  get_or,
  Option,
  Some,
  None,
  IfSome,
  refl,
  ap,
  sym,
  ◌∙◌,
  arith,
  subst,
}
use Rattle.std.proofs.Math.Seq.{drop-cons}
use Rattle.std.proofs.lemmas.Bool.{le-leb, lt-leb, eq-eqb, ne_eqb, or_right}
use Rattle.std.proofs.lemmas.List.{take-append-drop, take_more}
use Rattle.framehop.specs.Modules.{ModuleView, with_module, has_start, without_module, starts_by, starting_by, starting_above}
use Rattle.framehop_processes.specs.declared.mapping.Mapping.{Mapping}
use Rattle.framehop_processes.specs.Mappings.{IsInOrder}
use Rattle.framehop_processes.specs.Process.{StartsAt}
use Rattle.framehop_processes.proofs.MappingLemmas.{order-dropped, order-front}

-- each starts after the one before it, the first at or after an address
abbrev pub IsRising : ℕ → List Mapping → Type 0
IsRising from [] = Unit {0}
IsRising from (m ∷ mappings) = (from ≤ m.start) × IsRising (suc m.start) mappings

weaker-rising : (low from : ℕ) (ms : List Mapping) → low ≤ from → IsRising from ms → IsRising low ms
weaker-rising low from [] less rising = tt
weaker-rising low from (m ∷ ms) less rising = (let first = rising.0 in omega (arith, less, first), rising.1)

pub order-rises : (from : ℕ) (ms : List Mapping) → IsInOrder from ms → IsRising from ms
order-rises from [] order = tt
order-rises from (m ∷ ms) order =
    let own = order.1 in
    (order.0, weaker-rising (suc m.start) m.end ms (omega (arith, own)) (order-rises m.end ms order.2))

rising-removed : (from : ℕ) (m : Mapping) (before after : List Mapping) → IsRising from (before ++ m ∷ after) → IsRising from (before ++ after)
rising-removed from m [] after rising =
    let first = rising.0 in
    weaker-rising from (suc m.start) after (omega (arith, first)) rising.1
rising-removed from m (x ∷ before) after rising = (rising.0, rising-removed (suc x.start) m before after rising.1)

rising-joined : (from : ℕ) (m : Mapping) (before after : List Mapping) → IsRising from (before ++ m ∷ []) → IsRising (suc m.start) after
    → IsRising from (before ++ m ∷ after)
rising-joined from m [] after front back = (front.0, back)
rising-joined from m (x ∷ before) after front back = (front.0, rising-joined (suc x.start) m before after front.1 back)

rising-past : (from : ℕ) (m : Mapping) (before after : List Mapping) → IsRising from (before ++ m ∷ after) → from ≤ m.start
rising-past from m [] after rising = rising.0
rising-past from m (x ∷ before) after rising =
    let first = rising.0 in
    let rest = rising-past (suc x.start) m before after rising.1 in
    omega (arith, first, rest)

module _ (module_of : Mapping → ModuleView) (starts : StartsAt module_of) where
  none-by : (address from : ℕ) (ms : List Mapping) → IsRising from ms → address < from → starting_by address (map module_of ms) ≡ []
  none-by address from [] rising low = refl
  none-by address from (m ∷ ms) rising low =
      let is = starts m in
      let first = rising.0 in
      let here : starts_by address (module_of m) ≡ false = lt-leb _ _ (omega (arith, is, first, low)) in
      let rest = none-by address (suc m.start) ms rising.1 (omega (arith, first, low)) in
      rw (here, rest) refl

  all-above : (address from : ℕ) (ms : List Mapping) → IsRising from ms → address < from → starting_above address (map module_of ms) ≡ map module_of ms
  all-above address from [] rising low = refl
  all-above address from (m ∷ ms) rising low =
      let is = starts m in
      let first = rising.0 in
      let here : starts_by address (module_of m) ≡ false = lt-leb _ _ (omega (arith, is, first, low)) in
      let rest = all-above address (suc m.start) ms rising.1 (omega (arith, first, low)) in
      rw (here, rest) refl

  no-start : (start from : ℕ) (ms : List Mapping) → IsRising from ms → start < from → has_start start (map module_of ms) ≡ false
  no-start start from [] rising low = refl
  no-start start from (m ∷ ms) rising low =
      let is = starts m in
      let first = rising.0 in
      let here : ((module_of m).start == start) ≡ false = ne_eqb _ _ (λ same. omega (arith, is, first, low, same)) in
      let rest = no-start start (suc m.start) ms rising.1 (omega (arith, first, low)) in
      rw (here, rest) refl

  one-added : (from : ℕ) (new : Mapping) (before after : List Mapping) → IsRising from (before ++ new ∷ after)
      → with_module (module_of new) (map module_of (before ++ after)) ≡ map module_of (before ++ new ∷ after)
  one-added from new [] after rising =
      let is = starts new in
      let low : (module_of new).start < suc new.start = omega (arith, is) in
      rw (none-by (module_of new).start (suc new.start) after rising.1 low, all-above (module_of new).start (suc new.start) after rising.1 low) refl
  one-added from new (m ∷ before) after rising =
      let is = starts new in
      let other = starts m in
      let past = rising-past (suc m.start) new before after rising.1 in
      let here : starts_by (module_of new).start (module_of m) ≡ true = le-leb _ _ (omega (arith, is, other, past)) in
      let rest = one-added (suc m.start) new before after rising.1 in
      rw here (ap (λ others. module_of m ∷ others) rest)

  one-removed : (from : ℕ) (m : Mapping) (before after : List Mapping) → IsRising from (before ++ m ∷ after)
      → (has_start m.start (map module_of (before ++ m ∷ after)) ≡ true)
      × (without_module m.start (map module_of (before ++ m ∷ after)) ≡ map module_of (before ++ after))
  one-removed from m [] after rising =
      let here : ((module_of m).start == m.start) ≡ true = eq-eqb _ _ (starts m) in
      let others : has_start m.start (map module_of after) ≡ false = no-start m.start (suc m.start) after rising.1 (omega arith) in
      (rw here refl, rw (others, here) refl)
  one-removed from m (x ∷ before) after rising =
      let rest = one-removed (suc x.start) m before after rising.1 in (
        or_right ((module_of x).start == m.start) (has_start m.start (map module_of (before ++ m ∷ after))) rest.0,
        rw rest.0 (ap (λ others. module_of x ∷ others) rest.1),
      )

-- ---- one turn

append-parts : {A : Type 0} (xs ys zs : List A) → (xs ++ ys) ++ zs ≡ xs ++ (ys ++ zs)
append-parts [] ys zs = refl
append-parts (x ∷ xs) ys zs = ap (λ rest. x ∷ rest) (append-parts xs ys zs)

append-none : {A : Type 0} (xs : List A) → xs ++ [] ≡ xs
append-none [] = refl
append-none (x ∷ xs) = ap (λ rest. x ∷ rest) (append-none xs)

got : {A : Type 0} (xs : List A) (i : ℕ) (d : A) → i < length xs → slice_get xs i ≡ Some (get_or xs i d)
got [] i d within = absurd (omega (arith, within))
got (x ∷ xs) zero d within = refl
got (x ∷ xs) (suc i) d within = got xs i d (omega (arith, within))

-- mappings start after an address, if the first does
starts-after : (address : ℕ) (ms : List Mapping) → IsRising 0 ms → IfSome (slice_get ms 0) (λ m. address < m.start) → IsRising (suc address) ms
starts-after address [] rising above = tt
starts-after address (m ∷ ms) rising above = (omega (arith, above), rising.1)

first-dropped : {A : Type 0} (i : ℕ) (xs : List A) → slice_get (drop i xs) 0 ≡ slice_get xs i
first-dropped zero xs = refl
first-dropped (suc i) [] = refl
first-dropped (suc i) (x ∷ xs) = first-dropped i xs

if-first : (coming : Mapping) (found : Option Mapping) (is : Option Mapping) → is ≡ Some coming
    → IfSome found (λ going. IfSome is (λ n. n.start < going.start)) → IfSome found (λ going. coming.start < going.start)
if-first coming (Some going) is same holds = rw same at holds
if-first coming None is same holds = tt

module _ (module_of : Mapping → ModuleView) (starts : StartsAt module_of) (old new : List Mapping) (gone come : ℕ) (d : Mapping) where
  -- the next of both are the same
  pub turn-kept : gone < length old → come < length new → slice_get old gone ≡ slice_get new come
      → take (come + 1) new ++ drop (gone + 1) old ≡ take come new ++ drop gone old
  turn-kept low within same =
      let m = get_or old gone d in
      let n = get_or new come d in
      let alike : Some m ≡ Some n = sym (got old gone d low) ∙ same ∙ got new come d within in
      let are : m ≡ n = cc in
      let next : take (come + 1) new ≡ take come new ++ n ∷ [] = take_more new come d within in
      let head : drop gone old ≡ m ∷ drop (suc gone) old = drop-cons old gone d low in
      let one : gone + 1 ≡ suc gone = omega arith in
      ap (λ front. front ++ drop (gone + 1) old) next
      ∙ append-parts (take come new) (n ∷ []) (drop (gone + 1) old)
      ∙ ap (λ rest. take come new ++ n ∷ drop rest old) one
      ∙ ap (λ x. take come new ++ x ∷ drop (suc gone) old) (sym are)
      ∙ ap (λ rest. take come new ++ rest) (sym head)

  -- the next of the first list goes
  pub turn-removed : (m : Mapping) → m ≡ get_or old gone d → gone < length old → IsRising 0 (take come new ++ drop gone old)
      → (has_start m.start (map module_of (take come new ++ drop gone old)) ≡ true)
      × (without_module m.start (map module_of (take come new ++ drop gone old)) ≡ map module_of (take come new ++ drop (gone + 1) old))
      × IsRising 0 (take come new ++ drop (gone + 1) old)
  turn-removed m is low rising =
      let one : suc gone ≡ gone + 1 = omega arith in
      let head : drop gone old ≡ m ∷ drop (gone + 1) old =
      drop-cons old gone d low ∙ ap (λ x. x ∷ drop (suc gone) old) (sym is) ∙ ap (λ n. m ∷ drop n old) one in
      let parted : take come new ++ drop gone old ≡ take come new ++ m ∷ drop (gone + 1) old = ap (λ rest. take come new ++ rest) head in
      let later = subst (λ (all : List Mapping). IsRising 0 all) parted rising in
      let parts = one-removed module_of starts 0 m (take come new) (drop (gone + 1) old) later in
      (rw parted parts.0, rw parted parts.1, rising-removed 0 m (take come new) (drop (gone + 1) old) later)

  -- the next of the second list comes
  pub turn-added : (n : Mapping) → n ≡ get_or new come d → IsInOrder 0 old → IsInOrder 0 new → come < length new
      → IfSome (slice_get old gone) (λ going. IfSome (slice_get new come) (λ coming. coming.start < going.start))
      → (with_module (module_of n) (map module_of (take come new ++ drop gone old)) ≡ map module_of (take (come + 1) new ++ drop gone old))
      × IsRising 0 (take (come + 1) new ++ drop gone old)
  turn-added n is old_order new_order within below =
      let next : take (come + 1) new ≡ take come new ++ n ∷ [] = take_more new come d within ∙ ap (λ x. take come new ++ x ∷ []) (sym is) in
      let parted : take (come + 1) new ++ drop gone old ≡ take come new ++ n ∷ drop gone old =
      ap (λ front. front ++ drop gone old) next ∙ append-parts (take come new) (n ∷ []) (drop gone old) in
      let front : IsRising 0 (take come new ++ n ∷ []) =
      subst (λ (all : List Mapping). IsRising 0 all) next
      (order-rises 0 (take (come + 1) new) (order-front 0 (take (come + 1) new) (drop (come + 1) new)
      (subst (λ (all : List Mapping). IsInOrder 0 all) (sym (take-append-drop (come + 1) new)) new_order))) in
      let first : IfSome (slice_get (drop gone old) 0) (λ going. n.start < going.start) =
      rw (first-dropped gone old) (if-first n (slice_get old gone) (slice_get new come) (got new come d within ∙ ap Some (sym is)) below) in
      let back : IsRising (suc n.start) (drop gone old) =
      starts-after n.start (drop gone old) (order-rises 0 (drop gone old) (order-dropped gone 0 old old_order)) first in
      let rising = rising-joined 0 n (take come new) (drop gone old) front back in (
        one-added module_of starts 0 n (take come new) (drop gone old) rising ∙ ap (map module_of) (sym parted),
        subst (λ (all : List Mapping). IsRising 0 all) (sym parted) rising,
      )

take-all : {A : Type 0} (n : ℕ) (xs : List A) → length xs ≤ n → take n xs ≡ xs
take-all zero [] all = refl
take-all zero (x ∷ xs) all = absurd (omega (arith, all))
take-all (suc n) [] all = refl
take-all (suc n) (x ∷ xs) all = ap (λ rest. x ∷ rest) (take-all n xs (omega (arith, all)))

drop-all : {A : Type 0} (n : ℕ) (xs : List A) → length xs ≤ n → drop n xs ≡ []
drop-all zero [] all = refl
drop-all zero (x ∷ xs) all = absurd (omega (arith, all))
drop-all (suc n) [] all = refl
drop-all (suc n) (x ∷ xs) all = drop-all n xs (omega (arith, all))

-- all have gone and come
pub turned-all : (old new : List Mapping) (gone come : ℕ) → length old ≤ gone → length new ≤ come → take come new ++ drop gone old ≡ new
turned-all old new gone come low all =
    ap (λ rest. take come new ++ rest) (drop-all gone old low) ∙ append-none (take come new) ∙ take-all come new all
