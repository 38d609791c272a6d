-- Runs of addresses that are raised like stairs have what they had, and the last that begins at or before an address
-- reaches as far as any.
use Rattle.std.proofs.Common.{◌≡◌, ℕ, zero, suc, ◌+◌, ◌-◌, ◌<◌, ◌≤◌, ◌≢◌, Bool, true, ◌⊎◌, inl, inr, List, [], ◌∷◌, length, map, refl, sym, ◌∙◌, ap, arith}
use Rattle.std.specs.Prelude.{slice_index, slice_index_or, slice_set}
use Rattle.std.specs.List.{list_any}
use Rattle.std.specs.List.Sorted.{IsNonDecreasingBy}
use Rattle.std.proofs.lemmas.Bool.{cases_Bool, cases_order}
use Rattle.std.proofs.lemmas.Bool.Decides.{nat_tests}
use Rattle.std.proofs.lemmas.List.{get_or-set_same, get_or-set_other, get_or_default, length-set, length-map}
use Rattle.std.proofs.lemmas.List.Folds.{Any-from_list_any, list_any_at}
use Rattle.framehop_bytes.specs.Place.{IsPlace, AreOrdered}
use Rattle.framehop_memory.specs.declared.stairs.Run.{Run}
use Rattle.framehop_memory.specs.Stairs.{has_run, have_run, AreRising}

abbrev pub start_of : Run → ℕ
start_of run = run.start

-- each run before a place begins and ends at or after those before it
abbrev pub AreRisingBelow : List Run → ℕ → Type 0
AreRisingBelow runs end = (i j : ℕ) (d : Run) → i ≤ j → j < end →
    ((slice_index_or runs i d).start ≤ (slice_index_or runs j d).start)
    × ((slice_index_or runs i d).start + (slice_index_or runs i d).size ≤ (slice_index_or runs j d).start + (slice_index_or runs j d).size)

both-true : (a b : Bool) → (a ≡ true → b ≡ true) → (b ≡ true → a ≡ true) → a ≡ b
both-true a b there back =
    elim (cases_Bool a) [
      | inl holds ↦ holds ∙ sym (there holds)
      | inr fails ↦ elim (cases_Bool b) [
        | inl there_holds ↦ back there_holds ∙ sym there_holds
        | inr both ↦ fails ∙ sym both
      ]
    ]

-- what each that passes tells, one that passes tells
any-tells : (p : Run → Bool) (runs : List Run) (answer : Bool) → ((k : ℕ) (d : Run) → k < length runs → p (slice_index_or runs k d) ≡ true → answer ≡ true) → list_any p runs ≡ true → answer ≡ true
any-tells p runs answer each some =
    let found = Any-from_list_any p runs some in
    each found.0 found.1 found.2 (rw found.3 found.4)

-- one run is replaced by another that passes if it does, and only if it or another of them does
any-set : (p : Run → Bool) (runs : List Run) (index other : ℕ) (y d : Run) → index < length runs → other < length runs
    → (p (slice_index_or runs index d) ≡ true → p y ≡ true)
    → (p y ≡ true → (p (slice_index_or runs index d) ≡ true) ⊎ (p (slice_index_or runs other d) ≡ true))
    → list_any p (slice_set runs index y) ≡ list_any p runs
any-set p runs index other y d here there more only =
    let all = length-set runs index y in
    both-true (list_any p (slice_set runs index y)) (list_any p runs)
    (any-tells p (slice_set runs index y) (list_any p runs) (λ k e within passes. elim (cases_order k index) [
      | inl same ↦
          let at : p (slice_index_or (slice_set runs index y) index e) ≡ true = rw same at passes in
          elim (only (rw (get_or-set_same runs index y e here) at at)) [
            | inl was ↦ list_any_at p runs index d here was
            | inr was ↦ list_any_at p runs other d there was
          ]
      | inr apart ↦
          let unlike : k ≢ index = λ same. omega (arith, apart, same) in
          list_any_at p runs k e (omega (arith, all, within)) (rw (get_or-set_other runs index k y e unlike) at passes)
    ]))
    (any-tells p runs (list_any p (slice_set runs index y)) (λ k e within passes. elim (cases_order k index) [
      | inl same ↦
          let at : p (slice_index_or runs index e) ≡ true = rw same at passes in
          list_any_at p (slice_set runs index y) index d (omega (arith, all, here)) (rw (get_or-set_same runs index y d here) (more (rw (get_or_default runs index d e here) at)))
      | inr apart ↦
          let unlike : k ≢ index = λ same. omega (arith, apart, same) in
          list_any_at p (slice_set runs index y) k e (omega (arith, all, within)) (rw (get_or-set_other runs index k y e unlike) passes)
    ]))

-- a run that was raised by an earlier one has what it had, and besides at most what the earlier one has
module _ (address size : ℕ) (run earlier raised : Run) (order : earlier.start ≤ run.start) (start : raised.start ≡ run.start) (longer : run.size ≤ raised.size) where
  raised-has : has_run address size run ≡ true → has_run address size raised ≡ true
  raised-has passes = grind (arith, nat_tests)

  raised-has-only : (raised.size ≡ run.size) ⊎ (raised.start + raised.size ≡ earlier.start + earlier.size) → has_run address size raised ≡ true → (has_run address size run ≡ true) ⊎ (has_run address size earlier ≡ true)
  raised-has-only (inl same) passes = inl (grind (arith, nat_tests))
  raised-has-only (inr same) passes = inr (grind (arith, nat_tests))

-- a step of the loop that raises runs
module _ (runs : List Run) (index : ℕ) (raised d : Run) (one : 1 ≤ index) (within : index < length runs)
    (sorted : IsNonDecreasingBy (λ (run : Run). run.start) runs) (start : raised.start ≡ (slice_index_or runs index d).start) where
  start-set : (k : ℕ) (e : Run) → (slice_index_or (slice_set runs index raised) k e).start ≡ (slice_index_or runs k e).start
  start-set k e = elim (cases_order k index) [
    | inl same ↦ rw (same, get_or-set_same runs index raised e within, get_or_default runs index e d within) start
    | inr apart ↦ ap start_of (get_or-set_other runs index k raised e (λ same. omega (arith, apart, same)))
  ]

  pub sorted-set : IsNonDecreasingBy (λ (run : Run). run.start) (slice_set runs index raised)
  sorted-set i j e below inside =
      let all = length-set runs index raised in
      let h = sorted i j e below (omega (arith, all, inside)) in
      omega (arith, start-set i e, start-set j e, h)

  pub rising-set : AreRisingBelow runs index
      → (slice_index_or runs (index - 1) d).start + (slice_index_or runs (index - 1) d).size ≤ raised.start + raised.size
      → AreRisingBelow (slice_set runs index raised) (index + 1)
  rising-set rising further i j e below inside = elim (cases_order j index) [
    | inl last ↦ elim (cases_order i index) [
      | inl same ↦ rw (last, same) (omega arith, omega arith)
      | inr apart ↦
          let before = rising i (index - 1) d (omega (arith, apart, last, below, one)) (omega (arith, one)) in
          let begins = sorted (index - 1) index d (omega (arith, one)) within in
          rw (last, get_or-set_same runs index raised e within, get_or-set_other runs index i raised e (λ same. omega (arith, apart, same)), get_or_default runs i e d (omega (arith, apart, last, below, within)))
          (omega (arith, before.0, begins, start), omega (arith, before.1, further))
    ]
    | inr under ↦
        let ahead : j < index = omega (arith, under, inside) in
        rw (get_or-set_other runs index i raised e (λ same. omega (arith, ahead, below, same)), get_or-set_other runs index j raised e (λ same. omega (arith, ahead, same)))
        (rising i j e below ahead)
  ]

  pub have-set : (address size : ℕ) → (slice_index_or runs index d).size ≤ raised.size
      → (raised.size ≡ (slice_index_or runs index d).size) ⊎ (raised.start + raised.size ≡ (slice_index_or runs (index - 1) d).start + (slice_index_or runs (index - 1) d).size)
      → have_run (slice_set runs index raised) address size ≡ have_run runs address size
  have-set address size longer only =
      let order = sorted (index - 1) index d (omega arith) within in
      any-set (has_run address size) runs index (index - 1) raised d within (omega (arith, within))
      (raised-has address size (slice_index_or runs index d) (slice_index_or runs (index - 1) d) raised order start longer)
      (raised-has-only address size (slice_index_or runs index d) (slice_index_or runs (index - 1) d) raised order start longer only)

has-further : (address size : ℕ) (run other : Run) → other.start ≤ address → run.start + run.size ≤ other.start + other.size → has_run address size run ≡ true → has_run address size other ≡ true
has-further address size run other begins further passes = grind (arith, nat_tests)

-- where a run begins, in the list of starts
start-at : (runs : List Run) (i : ℕ) (d : Run) → i < length runs → slice_index (map start_of runs) i ≡ (slice_index_or runs i d).start
start-at [] i d within = absurd (omega (arith, within))
start-at (r ∷ runs) zero d within = refl
start-at (r ∷ runs) (suc i) d within = start-at runs i d (omega (arith, within))

pub starts-ordered : (runs : List Run) → AreRising runs → AreOrdered (map start_of runs)
starts-ordered runs rising i j below within =
    let none : Run = record { start = 0; size = 0 } in
    let all = length-map runs start_of in
    let inside : j < length runs = omega (arith, all, within) in
    let first : i < length runs = omega (arith, below, inside) in
    omega (arith, start-at runs i none first, start-at runs j none inside, (rising i j none below inside).0)

-- the last run that begins at or before an address has what any has
pub have-place : (runs : List Run) (address size place : ℕ) (e : Run) → AreRising runs → IsPlace (map start_of runs) address place
    → ((j : ℕ) → j < length (map start_of runs) → slice_index (map start_of runs) j ≤ address → j ≤ place)
    → has_run address size (slice_index_or runs place e) ≡ have_run runs address size
have-place runs address size place e rising is last =
    let all = length-map runs start_of in
    let inside : place < length runs = omega (arith, all, is.within) in
    both-true (has_run address size (slice_index_or runs place e)) (have_run runs address size)
    (λ passes. list_any_at (has_run address size) runs place e inside passes)
    (any-tells (has_run address size) runs (has_run address size (slice_index_or runs place e)) (λ k d within passes.
    let start = start-at runs k d within in
    let begins : (slice_index_or runs k d).start ≤ address = grind (arith, nat_tests) in
    let before : k ≤ place = last k (omega (arith, all, within)) (omega (arith, start, begins)) in
    elim (cases_order k place) [
      | inl same ↦ rw (← same, get_or_default runs k e d within) passes
      | inr apart ↦
          let some : 0 < place = omega (arith, apart, before) in
          let below = is.below some in
          let here = start-at runs place d inside in
          let further = (rising k place d before inside).1 in
          rw (get_or_default runs place e d inside) (has-further address size (slice_index_or runs k d) (slice_index_or runs place d) (omega (arith, below, here)) further passes)
    ]))
