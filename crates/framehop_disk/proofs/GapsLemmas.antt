-- Gaps in order: what is kept beside them, and how many bytes they leave out.
use Rattle.std.proofs.Common.{◌≡◌, ◌≤◌, ◌<◌, ◌+◌, ◌-◌, ◌⊎◌, inl, inr, ℕ, zero, suc, Bool, true, false, not, ◌||◌, ◌&&◌, nat_le, nat_lt, List, [], ◌∷◌, length, Option, Some, None, if◌then◌else◌, slice_get, slice_index_or, refl, sym, ◌∙◌, arith}
use Rattle.std.specs.List.{filter, list_any}
use Rattle.std.specs.List.Sorted.{IsNonDecreasingBy}
use Rattle.std.specs.declared.ops.Range.{Range}
use Rattle.std.specs.Prelude.{◌==◌}
use Rattle.std.proofs.lemmas.Bool.{cases_lt, lt-ltb, le-ltb, le-leb, lt-leb, leb-true, leb-false, ltb-true, ltb-false}
use Rattle.std.proofs.lemmas.Grind.{common_steps}
use Rattle.std.proofs.lemmas.List.Sums.{sum_by-cons}
use Rattle.framehop_disk.specs.declared.gaps.Gap.{Gap}
use Rattle.framehop_disk.specs.Gaps.{are_apart, AreCounted, begins_at, gaps_of, left_out_before, overlaps, so_far_of, so_far_at}
use Rattle.framehop_disk.specs.Wanted.{sum_64}

-- ---- in order

ends-from : (from before : ℕ) (gaps : List Gap) → AreCounted from before gaps → (j : ℕ) (d : Gap) → j < length gaps
    → from ≤ (slice_index_or gaps j d).end
ends-from from before [] counted j d within = absurd (omega (arith, within))
ends-from from before (gap ∷ gaps) counted zero d within =
    let a = counted.0 in
    let b = counted.1 in
    omega (arith, a, b)
ends-from from before (gap ∷ gaps) counted (suc j) d within =
    let a = counted.0 in
    let b = counted.1 in
    let later = ends-from gap.end gap.so_far gaps counted.3 j d (omega (arith, within)) in
    omega (arith, a, b, later)

pub ends-rise : (from before : ℕ) (gaps : List Gap) → AreCounted from before gaps → IsNonDecreasingBy (λ g. g.end) gaps
ends-rise from before [] counted i j d low within = absurd (omega (arith, within))
ends-rise from before (gap ∷ gaps) counted zero zero d low within = omega arith
ends-rise from before (gap ∷ gaps) counted zero (suc j) d low within =
    ends-from gap.end gap.so_far gaps counted.3 j d (omega (arith, within))
ends-rise from before (gap ∷ gaps) counted (suc i) zero d low within = absurd (omega (arith, low))
ends-rise from before (gap ∷ gaps) counted (suc i) (suc j) d low within =
    ends-rise gap.end gap.so_far gaps counted.3 i j d (omega (arith, low)) (omega (arith, within))

-- parts that are apart are counted
different : false ≡ true → ⊥
different is = cc

both : (a b : Bool) → (a && b) ≡ true → (a ≡ true) × (b ≡ true)
both true true is = (refl, refl)
both true false is = absurd (different is)
both false b is = absurd (different is)

pub counted-apart : (low from before : ℕ) (parts : List (Range ℕ)) → low ≤ from → are_apart from parts ≡ true
    → AreCounted low before (gaps_of before parts)
counted-apart low from before [] less apart = tt
counted-apart low from before (part ∷ parts) less apart =
    let first = both (nat_le from part.start && nat_le part.start part.end) (are_apart part.end parts) apart in
    let own = both (nat_le from part.start) (nat_le part.start part.end) first.0 in
    let a = leb-true _ _ own.0 in
    let b = leb-true _ _ own.1 in (
      omega (arith, less, a),
      b,
      refl,
      counted-apart part.end part.end (before + (part.end - part.start)) parts (omega arith) first.1,
    )

not-none : (found : List Gap) → Some found ≡ None → ⊥
not-none found is = cc

chosen : (b : Bool) (found given : List Gap) → Some found ≡ (if b then Some given else None) → (b ≡ true) × (found ≡ given)
chosen true found given is = (refl, cc)
chosen false found given is = absurd (not-none found is)

pub counted-parts : (from : ℕ) (parts : List (Range ℕ)) (found : List Gap)
    → Some found ≡ (if are_apart from parts then Some (gaps_of 0 parts) else None) → AreCounted 0 0 found
counted-parts from parts found is =
    let both = chosen (are_apart from parts) found (gaps_of 0 parts) is in
    rw both.1 (counted-apart 0 from 0 parts (omega arith) both.0)

-- ---- what is kept

module _ (offset size : ℕ) where
  abbrev any_overlaps : List Gap → Bool
  any_overlaps gaps = list_any (overlaps offset size) gaps

  and-false : (a b : Bool) → b ≡ false → (a && b) ≡ false
  and-false true b is = is
  and-false false b is = refl

  none-after : (from before : ℕ) (gaps : List Gap) → AreCounted from before gaps → sum_64 offset size ≤ from → any_overlaps gaps ≡ false
  none-after from before [] counted low = refl
  none-after from before (gap ∷ gaps) counted low =
      let a = counted.0 in
      let b = counted.1 in
      let clear : nat_lt gap.start (sum_64 offset size) ≡ false = le-ltb _ _ (omega (arith, low, a)) in
      let later = none-after gap.end gap.so_far gaps counted.3 (omega (arith, low, a, b)) in
      rw (and-false (nat_lt offset gap.end) (nat_lt gap.start (sum_64 offset size)) clear) later

  abbrev pub kept_by : Option Gap → Bool
  kept_by (Some gap) = nat_le (sum_64 offset size) gap.start
  kept_by None = true

  first-decides : (start sum : ℕ) (rest : Bool) → (sum ≤ start → rest ≡ false) → (start < sum) ⊎ (sum ≤ start)
      → nat_le sum start ≡ not (nat_lt start sum || rest)
  first-decides start sum rest clear (inl over) = rw (lt-leb _ _ over) (rw (lt-ltb _ _ over) refl)
  first-decides start sum rest clear (inr apart) = rw (le-leb _ _ apart) (rw (le-ltb _ _ apart) (rw (clear apart) refl))

  pub kept-at : (from before : ℕ) (gaps : List Gap) → AreCounted from before gaps → (i : ℕ)
      → ((k : ℕ) (d : Gap) → k < i → nat_le (slice_index_or gaps k d).end offset ≡ true)
      → ((k : ℕ) (d : Gap) → i ≤ k → k < length gaps → nat_le (slice_index_or gaps k d).end offset ≡ false)
      → kept_by (slice_get gaps i) ≡ not (any_overlaps gaps)
  kept-at from before [] counted i below above = refl
  kept-at from before (gap ∷ gaps) counted zero below above =
      let ends : nat_lt offset gap.end ≡ true = lt-ltb _ _ (leb-false _ _ (above zero gap (omega arith) (omega arith))) in
      rw ends (first-decides gap.start (sum_64 offset size) (any_overlaps gaps)
      (λ apart. let b = counted.1 in none-after gap.end gap.so_far gaps counted.3 (omega (arith, apart, b)))
      (cases_lt gap.start (sum_64 offset size)))
  kept-at from before (gap ∷ gaps) counted (suc i) below above =
      let ended : nat_lt offset gap.end ≡ false = le-ltb _ _ (leb-true _ _ (below zero gap (omega arith))) in
      rw ended (kept-at gap.end gap.so_far gaps counted.3 i
      (λ k d less. below (suc k) d (omega (arith, less)))
      (λ k d more within. above (suc k) d (omega (arith, more)) (omega (arith, within))))

-- ---- how many bytes are left out

abbrev last_so_far : ℕ → List Gap → ℕ → ℕ
last_so_far before gaps zero = before
last_so_far before gaps (suc i) = so_far_of (slice_get gaps i)

later-so_far : (before : ℕ) (gap : Gap) (gaps : List Gap) (i : ℕ) → last_so_far before (gap ∷ gaps) (suc i) ≡ last_so_far gap.so_far gaps i
later-so_far before gap gaps zero = refl
later-so_far before gap gaps (suc i) = refl

-- from the beginning of the file on
at-start : (gaps : List Gap) (i : ℕ) → so_far_at gaps i ≡ last_so_far 0 gaps i
at-start gaps zero = refl
at-start gaps (suc i) = refl

module _ (offset : ℕ) where
  left_out-none : (gaps : List Gap)
      → ((k : ℕ) (d : Gap) → k < length gaps → nat_le (slice_index_or gaps k d).end offset ≡ false) → left_out_before gaps offset ≡ 0
  left_out-none [] above = refl
  left_out-none (gap ∷ gaps) above =
      let later : nat_le gap.end offset ≡ false = above zero gap (omega arith) in
      rw later (left_out-none gaps (λ k d within. above (suc k) d (omega (arith, within))))

  abbrev size_of : Gap → ℕ
  size_of gap = gap.end - gap.start

  left_out-at : (from before : ℕ) (gaps : List Gap) → AreCounted from before gaps → (i : ℕ) → i ≤ length gaps
      → ((k : ℕ) (d : Gap) → k < i → nat_le (slice_index_or gaps k d).end offset ≡ true)
      → ((k : ℕ) (d : Gap) → i ≤ k → k < length gaps → nat_le (slice_index_or gaps k d).end offset ≡ false)
      → last_so_far before gaps i ≡ before + left_out_before gaps offset
  left_out-at from before gaps counted zero bound below above =
      let none = left_out-none gaps (λ k d within. above k d (omega arith) within) in
      omega (arith, none)
  left_out-at from before [] counted (suc i) bound below above = absurd (omega (arith, bound))
  left_out-at from before (gap ∷ gaps) counted (suc i) bound below above =
      let ended : nat_le gap.end offset ≡ true = below zero gap (omega arith) in
      let later = left_out-at gap.end gap.so_far gaps counted.3 i (omega (arith, bound))
      (λ k d less. below (suc k) d (omega (arith, less)))
      (λ k d more within. above (suc k) d (omega (arith, more)) (omega (arith, within))) in
      let whole = sum_by-cons size_of gap (filter (λ g. nat_le g.end offset) gaps) in
      let own = counted.2 in
      later-so_far before gap gaps i ∙ rw ended (omega (arith, later, whole, own))

  pub left_out-tells : (gaps : List Gap) → AreCounted 0 0 gaps → (i : ℕ) → i ≤ length gaps
      → ((k : ℕ) (d : Gap) → k < i → nat_le (slice_index_or gaps k d).end offset ≡ true)
      → ((k : ℕ) (d : Gap) → i ≤ k → k < length gaps → nat_le (slice_index_or gaps k d).end offset ≡ false)
      → so_far_at gaps i ≡ left_out_before gaps offset
  left_out-tells gaps counted i bound below above =
      let said = left_out-at 0 0 gaps counted i bound below above in
      at-start gaps i ∙ omega (arith, said)

-- ---- where one begins

-- the first that begins at an offset or after it
module _ (offset : ℕ) where
  abbrev pub begins_by : Option Gap → Bool
  begins_by (Some gap) = gap.start == offset
  begins_by None = false

  other-start : (start : ℕ) → start < offset → (start == offset) ≡ false
  other-start start less = grind (arith, common_steps)

  later-start : (start : ℕ) → offset < start → (start == offset) ≡ false
  later-start start more = grind (arith, common_steps)

  same-start : (start : ℕ) → start ≡ offset → (start == offset) ≡ true
  same-start start is = grind (arith, common_steps)

  none-begins : (from before : ℕ) (gaps : List Gap) → AreCounted from before gaps → offset < from → begins_at offset gaps ≡ false
  none-begins from before [] counted low = refl
  none-begins from before (gap ∷ gaps) counted low =
      let a = counted.0 in
      let b = counted.1 in
      let own = later-start gap.start (omega (arith, low, a)) in
      let later = none-begins gap.end gap.so_far gaps counted.3 (omega (arith, low, a, b)) in
      rw own later

  begins-first : (start : ℕ) (rest : Bool) → (offset < start → rest ≡ false) → (start ≡ offset) ⊎ (offset < start)
      → (start == offset) ≡ (start == offset || rest)
  begins-first start rest clear (inl is) = rw (same-start start is) refl
  begins-first start rest clear (inr more) = rw (later-start start more) (sym (clear more))

  cases-start : (start : ℕ) → offset ≤ start → (start ≡ offset) ⊎ (offset < start)
  cases-start start low = elim (cases_lt offset start) [ inl more ↦ inr more | inr less ↦ inl (omega (arith, low, less)) ]

  pub begins-at : (from before : ℕ) (gaps : List Gap) → AreCounted from before gaps → (i : ℕ)
      → ((k : ℕ) (d : Gap) → k < i → nat_lt (slice_index_or gaps k d).start offset ≡ true)
      → ((k : ℕ) (d : Gap) → i ≤ k → k < length gaps → nat_lt (slice_index_or gaps k d).start offset ≡ false)
      → begins_by (slice_get gaps i) ≡ begins_at offset gaps
  begins-at from before [] counted i below above = refl
  begins-at from before (gap ∷ gaps) counted zero below above =
      let low = ltb-false _ _ (above zero gap (omega arith) (omega arith)) in
      begins-first gap.start (begins_at offset gaps)
      (λ more. let b = counted.1 in none-begins gap.end gap.so_far gaps counted.3 (omega (arith, more, b)))
      (cases-start gap.start low)
  begins-at from before (gap ∷ gaps) counted (suc i) below above =
      let own = other-start gap.start (ltb-true _ _ (below zero gap (omega arith))) in
      rw own (begins-at gap.end gap.so_far gaps counted.3 i
      (λ k d less. below (suc k) d (omega (arith, less)))
      (λ k d more within. above (suc k) d (omega (arith, more)) (omega (arith, within))))

-- ---- starts in order

starts-from : (from before : ℕ) (gaps : List Gap) → AreCounted from before gaps → (j : ℕ) (d : Gap) → j < length gaps
    → from ≤ (slice_index_or gaps j d).start
starts-from from before [] counted j d within = absurd (omega (arith, within))
starts-from from before (gap ∷ gaps) counted zero d within = counted.0
starts-from from before (gap ∷ gaps) counted (suc j) d within =
    let a = counted.0 in
    let b = counted.1 in
    let later = starts-from gap.end gap.so_far gaps counted.3 j d (omega (arith, within)) in
    omega (arith, a, b, later)

pub starts-rise : (from before : ℕ) (gaps : List Gap) → AreCounted from before gaps → IsNonDecreasingBy (λ g. g.start) gaps
starts-rise from before [] counted i j d low within = absurd (omega (arith, within))
starts-rise from before (gap ∷ gaps) counted zero zero d low within = omega arith
starts-rise from before (gap ∷ gaps) counted zero (suc j) d low within =
    let b = counted.1 in
    let later = starts-from gap.end gap.so_far gaps counted.3 j d (omega (arith, within)) in
    omega (arith, b, later)
starts-rise from before (gap ∷ gaps) counted (suc i) zero d low within = absurd (omega (arith, low))
starts-rise from before (gap ∷ gaps) counted (suc i) (suc j) d low within =
    starts-rise gap.end gap.so_far gaps counted.3 i j d (omega (arith, low)) (omega (arith, within))
