-- Gaps between ranges, and what is missing.
use Rattle.std.proofs.Common.{◌≡◌, ℕ, suc, ◌<◌, ◌≤◌, max, Bool, true, false, not, ◌&&◌, ◌||◌, List, [], ◌∷◌, ◌++◌, length, drop, nat_le, nat_lt, nat_eq, refl, sym, ap, ◌∙◌, arith, inl, inr}
use Rattle.std.specs.List.{AllByRecursion, slice_index_or}
use Rattle.std.specs.List.Sorted.{IsNonDecreasingBy}
use Rattle.std.proofs.lemmas.Bool.{cases_Bool, cases_lt, ltb-true}
use Rattle.std.specs.List.Sorted.{IsPermutation}
use Rattle.std.proofs.lemmas.List.Sorted.{list_any-IsPermutation}
use Rattle.std.proofs.lemmas.List.Folds.{list_any-append}
use Rattle.std.proofs.lemmas.Bool.Decides.{nat_tests}
use Rattle.std.proofs.lemmas.List.{drop_all}
use Rattle.framehop_check.specs.declared.missing.Range.{Range}
use Rattle.framehop_check.specs.Missing.{has, is_in, is_missing, gap_between, begins_at, begins, IsInOrderFrom, IsWhole, IsGap}

-- where a range begins
abbrev pub start_of : Range → ℕ
start_of range = range.start

-- the ranges begin in order, from an address on, and at a last one at most
abbrev pub BeginFrom : ℕ → List Range → Type 0
BeginFrom low [] = Unit {0}
BeginFrom low (r ∷ rs) = (low ≤ r.start) × BeginFrom r.start rs

abbrev pub BeginBy : ℕ → List Range → Type 0
BeginBy top [] = Unit {0}
BeginBy top (r ∷ rs) = (r.start ≤ top) × BeginBy top rs

pub begin-from : (rs : List Range) (low : ℕ) → ((k : ℕ) (d : Range) → k < length rs → low ≤ (slice_index_or rs k d).start)
    → IsNonDecreasingBy start_of rs → BeginFrom low rs
begin-from [] low least sorted = tt
begin-from (r ∷ rs) low least sorted = (
  least 0 r (omega arith),
  begin-from rs r.start (λ k d within. sorted 0 (suc k) d (omega arith) (omega (arith, within)))
      (λ i j d less within. sorted (suc i) (suc j) d (omega (arith, less)) (omega (arith, within))),
)

-- how far ranges reach
abbrev pub reach : ℕ → Range → ℕ
reach at r = max (max at r.start) r.end

abbrev pub reach_from : ℕ → List Range → ℕ
reach_from at [] = at
reach_from at (r ∷ rs) = reach_from (reach at r) rs

reach-more : (rs : List Range) (at : ℕ) → at ≤ reach_from at rs
reach-more [] at = omega arith
reach-more (r ∷ rs) at = let more = reach-more rs (reach at r) in omega (arith, more)

-- no address before the first start is in ranges, nor does one begin there
not-in : (rs : List Range) (low address : ℕ) → BeginFrom low rs → address < low → is_in rs address ≡ false
not-in [] low address from below = refl
not-in (r ∷ rs) low address from below =
    let first : low ≤ r.start = from.0 in
    let rest = not-in rs r.start address from.1 (omega arith) in
    rw rest grind (arith, nat_tests)

not-begin : (rs : List Range) (low address : ℕ) → BeginFrom low rs → address < low → begins rs address ≡ false
not-begin [] low address from below = refl
not-begin (r ∷ rs) low address from below =
    let first : low ≤ r.start = from.0 in
    let rest = not-begin rs r.start address from.1 (omega arith) in
    rw rest grind (arith, nat_tests)

module _ (top : ℕ) where
  -- what a range and those after it leave of the addresses from one on
  held-by : (at address : ℕ) (r : Range) (later : Bool) → r.start ≤ top → (address < r.start → later ≡ false)
      → ((nat_le at address && nat_lt address r.start) || (nat_le (reach at r) address && (nat_lt address top && not later)))
      ≡ (nat_le at address && (nat_lt address top && not (has address r || later)))
  held-by at address r later by none =
      elim (cases_lt address r.start) [
        | inl below ↦ rw (none below) grind (arith, nat_tests)
        | inr above ↦ elim (cases_Bool later) [
          | inl is ↦ rw is grind (arith, nat_tests)
          | inr not_so ↦ rw not_so grind (arith, nat_tests)
        ]
      ]

  -- the gaps between ranges in order, from an address on
  abbrev pub gaps_from : ℕ → List Range → List Range
  gaps_from at [] = gap_between at top
  gaps_from at (r ∷ rs) = gap_between at r.start ++ gaps_from (reach at r) rs

  -- an address of a gap
  in-gap : (at end address : ℕ) (gaps : List Range)
      → is_in (gap_between at end ++ gaps) address ≡ ((nat_le at address && nat_lt address end) || is_in gaps address)
  in-gap at end address gaps =
      elim (cases_Bool (nat_lt at end)) [
        | inl some ↦ rw some refl
        | inr none ↦ rw none (let far : nat_lt at end ≡ false = none in grind (arith, nat_tests))
      ]

  in-last : (at address : ℕ) → is_in (gap_between at top) address ≡ (nat_le at address && nat_lt address top)
  in-last at address =
      elim (cases_Bool (nat_lt at top)) [
        | inl some ↦ rw some grind (arith, nat_tests)
        | inr none ↦ rw none (let far : nat_lt at top ≡ false = none in grind (arith, nat_tests))
      ]

  pub gaps-held : (rs : List Range) (low at address : ℕ) → BeginFrom low rs → BeginBy top rs
      → is_in (gaps_from at rs) address ≡ (nat_le at address && (nat_lt address top && not (is_in rs address)))
  gaps-held [] low at address from by = rw (in-last at address) grind (arith, nat_tests)
  gaps-held (r ∷ rs) low at address from by =
      let rest = gaps-held rs r.start (reach at r) address from.1 by.1 in
      rw (in-gap at r.start address (gaps_from (reach at r) rs), rest)
      (held-by at address r (is_in rs address) by.0 (λ below. not-in rs r.start address from.1 below))

  -- a gap begins at or after an address, is whole, and ends where it may
  pub record IsGapFrom (at : ℕ) (ranges : List Range) (gap : Range) : Type 0 where
    pub later : at ≤ gap.start
    pub some : gap.start < gap.end
    pub undivided : (address : ℕ) → gap.start < address → address < gap.end → begins ranges address ≡ false
    pub ends : begins ranges gap.end || nat_eq gap.end top ≡ true

  -- a gap after a range is one with that range too
  with-range : (at : ℕ) (r : Range) (rs : List Range) (gap : Range) → IsGapFrom (reach at r) rs gap → IsGapFrom at (r ∷ rs) gap
  with-range at r rs gap is =
      let later : max (max at r.start) r.end ≤ gap.start = is.later in
      record {
        later = omega arith;
        some = is.some;
        undivided = λ address above below. rw (is.undivided address above below) grind (arith, nat_tests);
        ends = let ends = is.ends in grind (arith, nat_tests);
      }

  all-with : (at : ℕ) (r : Range) (rs gaps : List Range) → AllByRecursion (IsGapFrom (reach at r) rs) gaps → AllByRecursion (IsGapFrom at (r ∷ rs)) gaps
  all-with at r rs [] all = tt
  all-with at r rs (gap ∷ gaps) all = (with-range at r rs gap all.0, all-with at r rs gaps all.1)

  pub gaps-whole : (rs : List Range) (low at : ℕ) → BeginFrom low rs → AllByRecursion (IsGapFrom at rs) (gaps_from at rs)
  gaps-whole [] low at from =
      elim (cases_Bool (nat_lt at top)) [
        | inl some ↦ rw some (
          record {
            later = omega arith;
            some = grind (arith, nat_tests);
            undivided = λ address above below. refl;
            ends = grind (arith, nat_tests);
          },
          tt,
        )
        | inr none ↦ rw none tt
      ]
  gaps-whole (r ∷ rs) low at from =
      let rest = all-with at r rs (gaps_from (reach at r) rs) (gaps-whole rs r.start (reach at r) from.1) in
      elim (cases_Bool (nat_lt at r.start)) [
        | inl some ↦ rw some (
          record {
            later = omega arith;
            some = grind (arith, nat_tests);
            undivided = λ address above below. rw (not-begin rs r.start address from.1 below) grind (arith, nat_tests);
            ends = grind (arith, nat_tests);
          },
          rest,
        )
        | inr none ↦ rw none rest
      ]

  pub gaps-ordered : (rs : List Range) (low at : ℕ) → low ≤ at → IsInOrderFrom low (gaps_from at rs)
  gaps-ordered [] low at least =
      elim (cases_Bool (nat_lt at top)) [
        | inl some ↦ rw some (omega arith, ltb-true at top some, tt)
        | inr none ↦ rw none tt
      ]
  gaps-ordered (r ∷ rs) low at least =
      elim (cases_Bool (nat_lt at r.start)) [
        | inl some ↦ rw some (omega arith, ltb-true at r.start some, gaps-ordered rs r.start (reach at r) (omega arith))
        | inr none ↦ rw none (gaps-ordered rs low (reach at r) (omega arith))
      ]

  -- the last gap
  pub gaps-last : (rs : List Range) (at index : ℕ) (gaps : List Range) → length rs ≤ index
      → gaps ++ gaps_from at (drop index rs) ≡ gaps_from 0 rs → gaps ++ gap_between at top ≡ gaps_from 0 rs
  gaps-last rs at index gaps past so =
      ap (λ (left : List Range). gaps ++ gaps_from at left) (sym (drop_all index rs past)) ∙ so

  pub begin-by : (rs : List Range) (at : ℕ) → reach_from at rs ≤ top → BeginBy top rs
  begin-by [] at within = tt
  begin-by (r ∷ rs) at within =
      let more = reach-more rs (reach at r) in
      (omega (arith, within, more), begin-by rs (reach at r) within)

  pub none-past : (rs : List Range) (at address : ℕ) → reach_from at rs ≤ top → top ≤ address → is_in rs address ≡ false
  none-past [] at address within past = refl
  none-past (r ∷ rs) at address within past =
      let more = reach-more rs (reach at r) in
      let ended : r.end ≤ address = omega (arith, within, more, past) in
      rw (none-past rs (reach at r) address within past) grind (arith, nat_tests)

-- the gaps between ranges that were sorted are those between the ranges
pub gaps-permuted : (xs ys : List Range) (at : ℕ) → IsPermutation xs ys → (gaps : List Range)
    → AllByRecursion (IsGapFrom 0xffff_ffff_ffff_ffff at ys) gaps → AllByRecursion (IsGap xs) gaps
gaps-permuted xs ys at same [] all = tt
gaps-permuted xs ys at same (gap ∷ gaps) all = (
  record {
    undivided = λ address above below. list_any-IsPermutation (begins_at address) xs ys same ∙ all.0.undivided address above below;
    ends = rw (list_any-IsPermutation (begins_at gap.end) xs ys same) all.0.ends;
  },
  gaps-permuted xs ys at same gaps all.1,
)

-- ranges in order have the addresses at which they begin
begun-in : (gaps : List Range) (from address : ℕ) → IsInOrderFrom from gaps → begins gaps address ≡ true → is_in gaps address ≡ true
begun-in [] from address ordered begun = begun
begun-in (gap ∷ gaps) from address ordered begun =
    let some : gap.start < gap.end = ordered.1 in
    elim (cases_Bool (nat_eq gap.start address)) [
      | inl here ↦ grind (arith, nat_tests)
      | inr not_here ↦
          let rest = begun-in gaps gap.end address ordered.2 (rw not_here at begun) in
          rw rest grind (arith, nat_tests)
    ]

-- what the loop over sorted ranges has at its end
module _ (ranges items : List Range) (same : IsPermutation ranges items) (sorted : IsNonDecreasingBy start_of items)
    (at index : ℕ) (before gaps : List Range) (past : length items ≤ index) (fits : at < 0x1_0000_0000_0000_0000)
    (pushed : gaps ≡ before ++ gap_between at 0xffff_ffff_ffff_ffff)
    (told : before ++ gaps_from 0xffff_ffff_ffff_ffff at (drop index items) ≡ gaps_from 0xffff_ffff_ffff_ffff 0 items)
    (reached : reach_from at (drop index items) ≡ reach_from 0 items) where
  all-gaps : gaps ≡ gaps_from 0xffff_ffff_ffff_ffff 0 items
  all-gaps = pushed ∙ gaps-last 0xffff_ffff_ffff_ffff items at index before past told

  within : reach_from 0 items ≤ 0xffff_ffff_ffff_ffff
  within = let last = sym (ap (reach_from at) (drop_all index items past)) ∙ reached in omega (arith, last, fits)

  begin : BeginFrom 0 items
  begin = begin-from items 0 (λ k d short. omega arith) sorted

  pub loop-held : (address : ℕ) → is_in gaps address ≡ (nat_lt address 0xffff_ffff_ffff_ffff && not (is_in ranges address))
  loop-held address =
      rw (all-gaps, list_any-IsPermutation (has address) ranges items same)
      (gaps-held 0xffff_ffff_ffff_ffff items 0 0 address begin (begin-by 0xffff_ffff_ffff_ffff items 0 within)
      ∙ grind (arith, nat_tests))

  pub loop-below : (address : ℕ) → 0xffff_ffff_ffff_ffff ≤ address → is_in ranges address ≡ false
  loop-below address above =
      list_any-IsPermutation (has address) ranges items same
      ∙ none-past 0xffff_ffff_ffff_ffff items 0 address within above

  pub loop-ordered : IsInOrderFrom 0 gaps
  loop-ordered = rw all-gaps (gaps-ordered 0xffff_ffff_ffff_ffff items 0 0 (omega arith))

  pub loop-whole : AllByRecursion (IsGap ranges) gaps
  loop-whole = rw all-gaps (gaps-permuted ranges items 0 same _ (gaps-whole 0xffff_ffff_ffff_ffff items 0 0 begin))

-- what is between the code's gaps and what covers is missing
module _ (code covered others : List Range)
    (held : (address : ℕ) → is_in others address ≡ (nat_lt address 0xffff_ffff_ffff_ffff && not (is_in code address)))
    (below : (address : ℕ) → 0xffff_ffff_ffff_ffff ≤ address → is_in code address ≡ false)
    (ordered : IsInOrderFrom 0 others) where
  ends-whole : (end : ℕ) → (begins others end || begins covered end) || nat_eq end 0xffff_ffff_ffff_ffff ≡ true
      → is_missing code covered end ≡ true → begins covered end ≡ true
  ends-whole end ends missing =
      elim (cases_Bool (begins covered end)) [
        | inl so ↦ so
        | inr not_covered ↦ elim (cases_Bool (begins others end)) [
          | inl begun ↦
              let outside = sym (held end) ∙ begun-in others 0 end ordered begun in
              grind (arith, nat_tests)
          | inr not_begun ↦
              let last = below end in
              grind (arith, nat_tests)
        ]
      ]

  pub missing-whole : (gaps : List Range) → AllByRecursion (IsGap (others ++ covered)) gaps → AllByRecursion (IsWhole code covered) gaps
  missing-whole [] all = tt
  missing-whole (gap ∷ gaps) all = (
    record {
      undivided = λ address above less.
          (let none = sym (list_any-append (begins_at address) others covered) ∙ all.0.undivided address above less in
          grind (arith, nat_tests));
      ends = ends-whole gap.end (rw list_any-append at all.0.ends);
    },
    missing-whole gaps all.1,
  )
