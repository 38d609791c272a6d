-- The first range that has some bytes, among ranges that are apart.
use Rattle.std.proofs.Common.{◌≡◌, ℕ, zero, suc, ◌+◌, ◌-◌, ◌<◌, ◌≤◌, Bool, true, false, inl, inr, List, [], ◌∷◌, length, Some, None, if◌then◌else◌, refl, ap, sym, ◌∙◌, arith}
use Rattle.std.specs.Prelude.{sum_by, slice_index_or, is_some, IfSome, nat_lt, Option}
use Rattle.std.specs.List.{find}
use Rattle.std.specs.Prelude.{map, slice_index}
use Rattle.std.proofs.lemmas.List.Sums.{sum_by-cons}
use Rattle.std.proofs.lemmas.Bool.{cases_Bool, cases_order}
use Rattle.std.proofs.lemmas.List.{get_or_default, length-map}
use Rattle.framehop_bytes.specs.Place.{IsPlace}
use Rattle.std.proofs.lemmas.Bool.Decides.{nat_tests}
use Rattle.framehop_memory.specs.declared.memory.MemoryRange.{MemoryRange}
use Rattle.framehop_memory.specs.Range.{available, has_available, start_of, AreApart, AreReordered}

-- a number of a range that passes a test, and 0 of another
abbrev pub passing : (MemoryRange → Bool) → (MemoryRange → ℕ) → MemoryRange → ℕ
passing p g range = if p range then g range else 0

-- how many ranges pass
abbrev pub count : (MemoryRange → Bool) → List MemoryRange → ℕ
count p ranges = sum_by (passing p (λ range. 1)) ranges

-- none passes
pub find-none : (p : MemoryRange → Bool) (ranges : List MemoryRange) → ((k : ℕ) (d : MemoryRange) → k < length ranges → p (slice_index_or ranges k d) ≡ false) → find p ranges ≡ None
find-none p [] fails = refl
find-none p (r ∷ ranges) fails =
    let here : p r ≡ false = fails 0 r (omega arith) in
    rw here (find-none p ranges (λ k d h. fails (suc k) d (omega (arith, h))))

sum-more : (p : MemoryRange → Bool) (g : MemoryRange → ℕ) (r : MemoryRange) (ranges : List MemoryRange) → p r ≡ true → sum_by (passing p g) (r ∷ ranges) ≡ g r + sum_by (passing p g) ranges
sum-more p g r ranges passes =
    let here : passing p g r ≡ g r = rw passes refl in
    sum_by-cons (passing p g) r ranges ∙ ap (λ n. n + sum_by (passing p g) ranges) here

sum-later : (p : MemoryRange → Bool) (g : MemoryRange → ℕ) (r : MemoryRange) (ranges : List MemoryRange) → p r ≡ false → sum_by (passing p g) (r ∷ ranges) ≡ sum_by (passing p g) ranges
sum-later p g r ranges fails =
    let here : passing p g r ≡ 0 = rw fails refl in
    let all = sum_by-cons (passing p g) r ranges in
    omega (arith, here, all)

sum-none : (p : MemoryRange → Bool) (g : MemoryRange → ℕ) (ranges : List MemoryRange) → ((k : ℕ) (d : MemoryRange) → k < length ranges → p (slice_index_or ranges k d) ≡ false) → sum_by (passing p g) ranges ≡ 0
sum-none p g [] fails = refl
sum-none p g (r ∷ ranges) fails =
    sum-later p g r ranges (fails 0 r (omega arith))
    ∙ sum-none p g ranges (λ k d h. fails (suc k) d (omega (arith, h)))

find-later : (p : MemoryRange → Bool) (r : MemoryRange) (ranges : List MemoryRange) → p r ≡ false → find p (r ∷ ranges) ≡ find p ranges
find-later p r ranges fails = rw fails refl

-- what is found passes
pub find-passes : (p : MemoryRange → Bool) (ranges : List MemoryRange) → IfSome (find p ranges) (λ range. p range ≡ true)
find-passes p [] = tt
find-passes p (r ∷ ranges) = elim (cases_Bool (p r)) [
  | inl passes ↦ rw passes passes
  | inr fails ↦ rw fails (find-passes p ranges)
]

-- one passes, so there is a first
some-at : (p : MemoryRange → Bool) (ranges : List MemoryRange) (place : ℕ) (e : MemoryRange) → place < length ranges → p (slice_index_or ranges place e) ≡ true → is_some (find p ranges) ≡ true
some-at p [] place e within passes = absurd (omega (arith, within))
some-at p (r ∷ ranges) zero e within passes = rw passes refl
some-at p (r ∷ ranges) (suc place) e within passes = elim (cases_Bool (p r)) [
  | inl here ↦ rw here refl
  | inr fails ↦ rw fails (some-at p ranges place e (omega (arith, within)) passes)
]

-- one alone passes
pub find-only : (p : MemoryRange → Bool) (ranges : List MemoryRange) (place : ℕ) (e : MemoryRange) → place < length ranges → p (slice_index_or ranges place e) ≡ true → ((k : ℕ) (d : MemoryRange) → k < length ranges → k < place → p (slice_index_or ranges k d) ≡ false) → find p ranges ≡ Some (slice_index_or ranges place e)
find-only p [] place e within passes fails = absurd (omega (arith, within))
find-only p (r ∷ ranges) zero e within passes fails = rw passes refl
find-only p (r ∷ ranges) (suc place) e within passes fails =
    let here : p r ≡ false = fails 0 r (omega arith) (omega arith) in
    rw here (find-only p ranges place e (omega (arith, within)) passes (λ k d h below. fails (suc k) d (omega (arith, h)) (omega (arith, below))))

-- none passes by their number
from-none : (p : MemoryRange → Bool) (g : MemoryRange → ℕ) (ranges : List MemoryRange) → count p ranges ≡ 0 → (find p ranges ≡ None) × (sum_by (passing p g) ranges ≡ 0)
from-none p g [] none = (refl, refl)
from-none p g (r ∷ ranges) none =
    elim (cases_Bool (p r)) [
      | inl passes ↦ absurd (let all = sum-more p (λ range. 1) r ranges passes in omega (arith, all, none))
      | inr fails ↦
          let later = from-none p g ranges (sym (sum-later p (λ range. 1) r ranges fails) ∙ none) in
          (rw fails later.0, sum-later p g r ranges fails ∙ later.1)
    ]

-- one passes by their number: each sum over what passes is its own
from-one : (p : MemoryRange → Bool) (ranges : List MemoryRange) → count p ranges ≡ 1 → (r : MemoryRange) × (find p ranges ≡ Some r) × ((g : MemoryRange → ℕ) → sum_by (passing p g) ranges ≡ g r)
from-one p [] one = absurd (omega (arith, one))
from-one p (r ∷ ranges) one =
    elim (cases_Bool (p r)) [
      | inl passes ↦
          let all = sum-more p (λ range. 1) r ranges passes in
          let none : count p ranges ≡ 0 = omega (arith, all, one) in
          (r, rw passes refl, λ g. let rest = (from-none p g ranges none).1 in let more = sum-more p g r ranges passes in omega (arith, rest, more))
      | inr fails ↦
          let later = from-one p ranges (sym (sum-later p (λ range. 1) r ranges fails) ∙ one) in
          (later.0, find-later p r ranges fails ∙ later.1, λ g. sum-later p g r ranges fails ∙ later.2 g)
    ]

range-same : (a b : MemoryRange) → a.start ≡ b.start → a.size ≡ b.size → a.offset ≡ b.offset → a ≡ b
range-same a b start size offset =
    let first : a ≡ record { start = b.start; size = a.size; offset = a.offset } = ap (λ n. record { start = n; size = a.size; offset = a.offset }) start in
    let second : record { start = b.start; size = a.size; offset = a.offset } ≡ record { start = b.start; size = b.size; offset = a.offset } = ap (λ n. record { start = b.start; size = n; offset = a.offset }) size in
    let third : record { start = b.start; size = b.size; offset = a.offset } ≡ b = ap (λ n. record { start = b.start; size = b.size; offset = n }) offset in
    first ∙ second ∙ third

-- where at most one passes, it is found in any order
pub find-reordered : (p : MemoryRange → Bool) (ranges others : List MemoryRange) → AreReordered ranges others → count p others ≤ 1 → find p ranges ≡ find p others
find-reordered p ranges others same few =
    let counts = same (passing p (λ range. 1)) in
    elim (cases_order (count p others) 0) [
      | inl none ↦ (from-none p (λ range. 1) ranges (sym counts ∙ none)).0 ∙ sym (from-none p (λ range. 1) others none).0
      | inr more ↦
          let one : count p others ≡ 1 = omega arith in
          let a = from-one p ranges (sym counts ∙ one) in
          let b = from-one p others one in
          let equal : (g : MemoryRange → ℕ) → g a.0 ≡ g b.0 = λ g. sym (a.2 g) ∙ sym (same (passing p g)) ∙ b.2 g in
          a.1 ∙ ap (λ r. Some r) (range-same a.0 b.0 (equal (λ r. r.start)) (equal (λ r. r.size)) (equal (λ r. r.offset))) ∙ sym b.1
    ]

-- some range passes if their number says so, so in any order
some-counted : (p : MemoryRange → Bool) (ranges : List MemoryRange) → is_some (find p ranges) ≡ nat_lt 0 (count p ranges)
some-counted p [] = refl
some-counted p (r ∷ ranges) = elim (cases_Bool (p r)) [
  | inl passes ↦
      let more = sum-more p (λ range. 1) r ranges passes in
      let counted : nat_lt 0 (count p (r ∷ ranges)) ≡ true = grind (arith, nat_tests) in
      let found : is_some (find p (r ∷ ranges)) ≡ true = rw passes refl in
      found ∙ sym counted
  | inr fails ↦ ap is_some (find-later p r ranges fails) ∙ some-counted p ranges ∙ ap (nat_lt 0) (sym (sum-later p (λ range. 1) r ranges fails))
]

pub some-reordered : (p : MemoryRange → Bool) (ranges others : List MemoryRange) → AreReordered ranges others → is_some (find p ranges) ≡ is_some (find p others)
some-reordered p ranges others same =
    some-counted p ranges ∙ ap (nat_lt 0) (sym (same (passing p (λ range. 1)))) ∙ sym (some-counted p others)

-- no more bytes of a range count than it has
available-few : (file_size : Option ℕ) (range : MemoryRange) → available file_size range ≤ range.size
available-few None range = omega arith
available-few (Some file_size) range = omega arith

has-within : (file_size : Option ℕ) (address size : ℕ) (range : MemoryRange) → has_available file_size address size range ≡ true → (range.start ≤ address) × (address + size ≤ range.start + range.size)
has-within file_size address size range passes = let few = available-few file_size range in (grind (arith, nat_tests), grind (arith, nat_tests))

-- a range has no bytes from its start on
has-none : (file_size : Option ℕ) (address size : ℕ) (range : MemoryRange) → range.start ≡ address → size ≡ 0 → has_available file_size address size range ≡ true
has-none file_size address size range begins none = grind (arith, nat_tests)

-- where a range begins, in the list of starts
start-at : (ranges : List MemoryRange) (i : ℕ) (d : MemoryRange) → i < length ranges → slice_index (map start_of ranges) i ≡ (slice_index_or ranges i d).start
start-at [] i d within = absurd (omega (arith, within))
start-at (r ∷ ranges) zero d within = refl
start-at (r ∷ ranges) (suc i) d within = start-at ranges i d (omega (arith, within))

starts-rise : (ranges : List MemoryRange) (i j : ℕ) (d : MemoryRange) → AreApart ranges → i ≤ j → j < length ranges → (slice_index_or ranges i d).start ≤ (slice_index_or ranges j d).start
starts-rise ranges i j d apart below within =
    elim (cases_order i j) [
      | inl same ↦ rw same (omega arith)
      | inr (inl under) ↦ let h = apart i j d under within in omega (arith, h)
      | inr (inr over) ↦ absurd (omega (arith, over, below))
    ]

module _ (file_size : Option ℕ) (address size : ℕ) where
  abbrev passes-at : MemoryRange → Bool
  passes-at range = has_available file_size address size range

  begins-above : (range : MemoryRange) → address < range.start → passes-at range ≡ false
  begins-above range begins = elim (cases_Bool (passes-at range)) [
    | inl passes ↦ absurd (let h = (has-within file_size address size range passes).0 in omega (arith, h, begins))
    | inr fails ↦ fails
  ]

  ends-below : (range : MemoryRange) → 0 < size → range.start + range.size ≤ address → passes-at range ≡ false
  ends-below range some ends = elim (cases_Bool (passes-at range)) [
    | inl passes ↦ absurd (let h = (has-within file_size address size range passes).1 in omega (arith, h, ends, some))
    | inr fails ↦ fails
  ]

  -- of ranges that are apart at most one passes
  count-apart : (ranges : List MemoryRange) → 0 < size → AreApart ranges → count passes-at ranges ≤ 1
  count-apart [] some apart = omega arith
  count-apart (r ∷ ranges) some apart =
      let later : AreApart ranges = λ i j d h inside. apart (suc i) (suc j) d (omega (arith, h)) (omega (arith, inside)) in
      elim (cases_Bool (passes-at r)) [
        | inl passes ↦
            let ends = (has-within file_size address size r passes).1 in
            let none = sum-none passes-at (λ range. 1) ranges (λ k d h.
            let after = apart 0 (suc k) d (omega arith) (omega (arith, h)) in
            begins-above (slice_index_or ranges k d) (omega (arith, after, ends, some))) in
            let all = sum-more passes-at (λ range. 1) r ranges passes in
            omega (arith, none, all)
        | inr fails ↦
            let rest = count-apart ranges some later in
            let all = sum-later passes-at (λ range. 1) r ranges fails in
            omega (arith, rest, all)
      ]

  -- so the first that passes is the same in another order
  pub find-apart : (ranges others : List MemoryRange) → 0 < size → AreReordered ranges others → AreApart others → find passes-at ranges ≡ find passes-at others
  find-apart ranges others some same apart = find-reordered passes-at ranges others same (count-apart others some apart)

  -- none passes after the range that halving reaches
  above : (ranges : List MemoryRange) (place : ℕ) → AreApart ranges → IsPlace (map start_of ranges) address place → (k : ℕ) (d : MemoryRange) → k < length ranges → place < k → passes-at (slice_index_or ranges k d) ≡ false
  above ranges place apart is k d inside over =
      let all = length-map ranges start_of in
      let next : place + 1 < length ranges = omega (arith, over, inside) in
      let later = is.above (omega (arith, all, next)) in
      let start = start-at ranges (place + 1) d next in
      let rises = starts-rise ranges (place + 1) k d apart (omega (arith, over)) inside in
      begins-above (slice_index_or ranges k d) (omega (arith, later, start, rises))

  -- those before it end before it begins
  below : (ranges : List MemoryRange) (place : ℕ) → AreApart ranges → IsPlace (map start_of ranges) address place → (k : ℕ) (d : MemoryRange) → k < place
      → ((slice_index_or ranges k d).start + (slice_index_or ranges k d).size ≤ (slice_index_or ranges place d).start) × ((slice_index_or ranges place d).start ≤ address)
  below ranges place apart is k d under =
      let all = length-map ranges start_of in
      let inside : place < length ranges = omega (arith, all, is.within) in
      let start = start-at ranges place d inside in
      let before = is.below (omega (arith, under)) in
      (apart k place d under inside, omega (arith, before, start))

  -- so it is the first that passes, if it passes
  pub place-passes : (ranges : List MemoryRange) (place : ℕ) (e : MemoryRange) → 0 < size → AreApart ranges → IsPlace (map start_of ranges) address place → passes-at (slice_index_or ranges place e) ≡ true → find passes-at ranges ≡ Some (slice_index_or ranges place e)
  place-passes ranges place e some apart is passes =
      find-only passes-at ranges place e (let all = length-map ranges start_of in omega (arith, all, is.within)) passes
      (λ k d inside under. let ends = below ranges place apart is k d under in ends-below (slice_index_or ranges k d) some (omega (arith, ends.0, ends.1)))

  -- and some range passes, though it may have no bytes
  pub place-some : (ranges : List MemoryRange) (place : ℕ) (e : MemoryRange) → IsPlace (map start_of ranges) address place → passes-at (slice_index_or ranges place e) ≡ true → is_some (find passes-at ranges) ≡ true
  place-some ranges place e is passes = some-at passes-at ranges place e (let all = length-map ranges start_of in omega (arith, all, is.within)) passes

  -- and if it doesn't, none does
  pub place-fails : (ranges : List MemoryRange) (place : ℕ) (e : MemoryRange) → AreApart ranges → IsPlace (map start_of ranges) address place → passes-at (slice_index_or ranges place e) ≡ false → find passes-at ranges ≡ None
  place-fails ranges place e apart is fails =
      let all = length-map ranges start_of in
      let at : place < length ranges = omega (arith, all, is.within) in
      find-none passes-at ranges (λ k d inside. elim (cases_order k place) [
        | inl same ↦ rw same (rw (get_or_default ranges place d e at) fails)
        | inr (inl under) ↦ elim (cases_Bool (passes-at (slice_index_or ranges k d))) [
          | inl passes ↦
              let ends = below ranges place apart is k d under in
              let within = (has-within file_size address size (slice_index_or ranges k d) passes).1 in
              let there = has-none file_size address size (slice_index_or ranges place d) (omega (arith, ends.0, ends.1, within)) (omega (arith, ends.0, ends.1, within)) in
              let here : passes-at (slice_index_or ranges place d) ≡ false = rw (get_or_default ranges place d e at) fails in
              absurd (cc)
          | inr none ↦ none
        ]
        | inr (inr over) ↦ above ranges place apart is k d inside over
      ])

-- one more range is apart from those before it
pub apart-more : (ranges : List MemoryRange) (index i j : ℕ) (d : MemoryRange) → 1 ≤ index
    → ((k l : ℕ) (e : MemoryRange) → k < l → l < index → (slice_index_or ranges k e).start + (slice_index_or ranges k e).size ≤ (slice_index_or ranges l e).start)
    → (slice_index_or ranges (index - 1) d).start + (slice_index_or ranges (index - 1) d).size ≤ (slice_index_or ranges index d).start
    → i < j → j < index + 1 → (slice_index_or ranges i d).start + (slice_index_or ranges i d).size ≤ (slice_index_or ranges j d).start
apart-more ranges index i j d one before next below within =
    elim (cases_order j index) [
      | inl same ↦ rw same (elim (cases_order i (index - 1)) [
        | inl last ↦ rw last next
        | inr (inl under) ↦ let h = before i (index - 1) d under (omega arith) in omega (arith, h, next)
        | inr (inr over) ↦ absurd (omega (arith, over, same, below))
      ])
      | inr (inl under) ↦ before i j d below under
      | inr (inr over) ↦ absurd (omega (arith, over, within))
    ]
