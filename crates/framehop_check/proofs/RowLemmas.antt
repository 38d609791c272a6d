-- The claims of an FDE's rows by spans.
use Rattle.std.proofs.Common.{◌≡◌, ℕ, zero, suc, ◌+◌, ◌-◌, ◌^◌, ◌<◌, ◌≤◌, Bool, true, false, List, [], ◌∷◌, ◌++◌, length, Option, Some, None, Ok, Err, nat_le, slice_get, if◌then◌else◌, refl, sym, ap, ◌∙◌, arith, inl, inr}
use Rattle.std.specs.List.{slice_index_or}
use Rattle.std.specs.List.Sorted.{IsNonDecreasingBy}
use Rattle.std.proofs.lemmas.Bool.{cases_Bool, cases_lt, lt-leb, le-leb}
use Rattle.std.proofs.lemmas.Bool.Decides.{nat_tests}
use Rattle.std.proofs.lemmas.List.Sorted.{IsNonDecreasingBy-push, IsNonDecreasingBy-short}
use Rattle.framehop_cfi.specs.declared.read_error.ReadError.{ReadError}
use Rattle.framehop_cfi.specs.Row.{Row}
use Rattle.framehop_cfi.specs.Section.{Section}
use Rattle.framehop_cfi.specs.RowAt.{row_at, rows_at, covers}
use Rattle.framehop_cfi.specs.RowCursor.{HaveRow, HaveNoRow}
use Rattle.framehop_cfi.specs.declared.storage.StorageLimits.{StorageLimits}
use Rattle.framehop_cfi.specs.declared.entry.FrameDescriptionEntry.{FrameDescriptionEntry}
use Rattle.framehop_code.specs.declared.effect.Base.{Base}
use Rattle.framehop_check.specs.declared.claim.Claim.{Claim}
use Rattle.framehop_check.specs.declared.rows.Span.{Span}
use Rattle.framehop_check.specs.Claim.{claim_of_row}
use Rattle.framehop_check.specs.Rows.{claim_of_address, claim_of_span, claim_of_found, claim_at, end_of}

-- the spans up to a place end at or before the address, and those from it on after it
pub claim_at-point : (spans : List Span) (address place : ℕ)
    → ((k : ℕ) (d : Span) → k < place → k < length spans → nat_le (slice_index_or spans k d).end address ≡ true)
    → ((k : ℕ) (d : Span) → place ≤ k → k < length spans → nat_le (slice_index_or spans k d).end address ≡ false)
    → claim_of_found address (slice_get spans place) ≡ claim_at spans address
claim_at-point [] address place before after = refl
claim_at-point (s ∷ spans) address zero before after =
    sym (ap (λ (b : Bool). if b then claim_at spans address else claim_of_span address s) (after 0 s (omega arith) (omega arith)))
claim_at-point (s ∷ spans) address (suc place) before after =
    claim_at-point spans address place (λ k d h within. before (suc k) d (omega (arith, h)) (omega (arith, within)))
    (λ k d h within. after (suc k) d (omega (arith, h)) (omega (arith, within)))
    ∙ sym (ap (λ (b : Bool). if b then claim_at spans address else claim_of_span address s) (before 0 s (omega arith) (omega arith)))

-- each of the spans ends at or before an address
abbrev pub EndBy : ℕ → List Span → Type 0
EndBy address [] = Unit {0}
EndBy address (s ∷ spans) = (s.end ≤ address) × EndBy address spans

weaker : (low high : ℕ) (spans : List Span) → low ≤ high → EndBy low spans → EndBy high spans
weaker low high [] less ends = tt
weaker low high (s ∷ spans) less ends = (let first = ends.0 in omega (arith, less, first), weaker low high spans less ends.1)

joined : (address : ℕ) (spans : List Span) (s : Span) → EndBy address spans → s.end ≤ address → EndBy address (spans ++ s ∷ [])
joined address [] s ends last = (last, tt)
joined address (t ∷ spans) s ends last = (ends.0, joined address spans s ends.1 last)

last-ends : (address : ℕ) (spans : List Span) → EndBy address spans → (k : ℕ) (d : Span) → k < length spans → (slice_index_or spans k d).end ≤ address
last-ends address [] ends k d within = absurd (omega (arith, within))
last-ends address (s ∷ spans) ends zero d within = ends.0
last-ends address (s ∷ spans) ends (suc k) d within = last-ends address spans ends.1 k d (omega (arith, within))

-- no span ends after the address
claim_at-ended : (spans : List Span) (address low : ℕ) → EndBy low spans → low ≤ address → claim_at spans address ≡ None
claim_at-ended [] address low ends from = refl
claim_at-ended (s ∷ spans) address low ends from =
    let first = ends.0 in
    rw (le-leb s.end address (omega (arith, first, from))) (claim_at-ended spans address low ends.1 from)

-- a span that begins after the address changes nothing
claim_at-before : (spans : List Span) (s : Span) (address : ℕ) → address < s.start → claim_at (spans ++ s ∷ []) address ≡ claim_at spans address
claim_at-before [] s address below =
    elim (cases_Bool (nat_le s.end address)) [
      | inl ended ↦ rw ended refl
      | inr not-ended ↦ rw not-ended (rw (lt-leb s.start address below) refl)
    ]
claim_at-before (t ∷ spans) s address below =
    ap (λ (found : Option Claim). if nat_le t.end address then found else claim_of_span address t) (claim_at-before spans s address below)

-- after spans that have ended, the new one counts
claim_at-after : (spans : List Span) (s : Span) (address low : ℕ) → EndBy low spans → low ≤ address
    → claim_at (spans ++ s ∷ []) address ≡ claim_at (s ∷ []) address
claim_at-after [] s address low ends from = refl
claim_at-after (t ∷ spans) s address low ends from =
    let first = ends.0 in
    rw (le-leb t.end address (omega (arith, first, from))) (claim_at-after spans s address low ends.1 from)

module _ (numbered : ℕ → Option Base) (return_column : ℕ) (limits : Option StorageLimits) (section : Section)
    (fde : FrameDescriptionEntry) where
  -- an address that the FDE does not cover has no row
  uncovered : (address : ℕ) → covers fde address ≡ false → claim_of_address numbered return_column limits section fde address ≡ None
  unfolding claim_of_address row_at rows_at
  uncovered address not = rw not refl

  rowed : (address : ℕ) (row : Row) → row_at limits section fde address ≡ Ok row
      → claim_of_address numbered return_column limits section fde address ≡ Some (claim_of_row numbered return_column row)
  unfolding claim_of_address
  rowed address row is = rw is refl

  rowless : (address : ℕ) (error : ReadError) → row_at limits section fde address ≡ Err error
      → claim_of_address numbered return_column limits section fde address ≡ None
  unfolding claim_of_address
  rowless address error is = rw is refl

  beyond : (address : ℕ) → fde.initial_address + fde.address_range ≤ address → covers fde address ≡ false
  beyond address far = grind (arith, nat_tests)

  within : (address : ℕ) → fde.initial_address + fde.address_range < 2 ^ 64 → fde.initial_address ≤ address
      → address < fde.initial_address + fde.address_range → covers fde address ≡ true
  within address fits from below = grind (arith, nat_tests)

  -- the spans say what the rows say of each address below one
  pub record Spanned (location : ℕ) (spans : List Span) : Type 0 where
    pub from : fde.initial_address ≤ location
    pub known : (address : ℕ) → address < location
        → claim_at spans address ≡ claim_of_address numbered return_column limits section fde address
    pub ordered : IsNonDecreasingBy end_of spans
    pub ends : EndBy location spans

  below-first : (address : ℕ) → address < fde.initial_address → covers fde address ≡ false
  below-first address below = grind (arith, nat_tests)

  pub spanned-none : Spanned fde.initial_address []
  spanned-none = record {
    from = omega arith;
    known = λ address below. sym (uncovered address (below-first address below));
    ordered = IsNonDecreasingBy-short end_of [] (omega arith);
    ends = tt;
  }

  -- one more span: up to the next row, or to the FDE's end
  module _ (fits : fde.initial_address + fde.address_range < 2 ^ 64) (location after : ℕ) (spans : List Span) (s : Span) (row : Row)
      (spanned : Spanned location spans) (more : location ≤ after) (have : HaveRow limits section fde location after row)
      (starts : s.start ≡ location) (says : s.claim ≡ claim_of_row numbered return_column row) (up : s.end ≤ after)
      (inside : s.end ≤ fde.initial_address + fde.address_range)
      (least : (address : ℕ) → address < after → address < fde.initial_address + fde.address_range → address < s.end) where
    known-new : (address : ℕ) → location ≤ address → address < after
        → claim_at (s ∷ []) address ≡ claim_of_address numbered return_column limits section fde address
    known-new address from below =
        elim (cases_lt address (fde.initial_address + fde.address_range)) [
          | inl near ↦
              (let first = spanned.from in
              let short = least address below near in
              rw (lt-leb s.end address short)
              (rw (le-leb s.start address (omega (arith, starts, from)))
              (ap Some says ∙ sym (rowed address row (have address (within address fits (omega (arith, first, from)) near) from below)))))
          | inr far ↦ rw (le-leb s.end address (omega (arith, inside, far))) (sym (uncovered address (beyond address far)))
        ]

    known-all : (address : ℕ) → address < after
        → claim_at (spans ++ s ∷ []) address ≡ claim_of_address numbered return_column limits section fde address
    known-all address below =
        elim (cases_lt address location) [
          | inl old ↦ claim_at-before spans s address (omega (arith, starts, old)) ∙ spanned.known address old
          | inr new ↦ claim_at-after spans s address location spanned.ends new ∙ known-new address new below
        ]

    pub spanned-more : location < s.end → Spanned after (spans ++ s ∷ [])
    spanned-more longer = record {
      from = let first = spanned.from in omega (arith, first, more);
      known = known-all;
      ordered = IsNonDecreasingBy-push end_of spans s spanned.ordered (λ d some. let last = last-ends location spans spanned.ends (length spans - 1) d (omega (arith, some)) in omega (arith, last, longer));
      ends = joined after spans s (weaker location after spans more spanned.ends) up;
    }

  -- the rows have come to the FDE's end
  pub spanned-all : (location : ℕ) (spans : List Span) → fde.initial_address + fde.address_range ≤ location
      → Spanned location spans → (address : ℕ)
      → claim_at spans address ≡ claim_of_address numbered return_column limits section fde address
  spanned-all location spans far spanned address =
      elim (cases_lt address location) [
        | inl below ↦ spanned.known address below
        | inr above ↦
            claim_at-ended spans address location spanned.ends above
            ∙ sym (uncovered address (beyond address (omega (arith, far, above))))
      ]

  -- from there on no address has a row
  pub spanned-rowless : (location : ℕ) (spans : List Span) (error : ReadError) → HaveNoRow limits section fde location error
      → Spanned location spans → (address : ℕ)
      → claim_at spans address ≡ claim_of_address numbered return_column limits section fde address
  spanned-rowless location spans error none spanned address =
      elim (cases_lt address location) [
        | inl below ↦ spanned.known address below
        | inr above ↦
            claim_at-ended spans address location spanned.ends above
            ∙ sym (elim (cases_Bool (covers fde address)) [
              | inl covered ↦ rowless address error (none address covered above)
              | inr not ↦ uncovered address not
            ])
      ]
