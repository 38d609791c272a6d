-- A section cut by its entries' lengths.
use Rattle.std.proofs.Common.{◌≡◌, ℕ, zero, suc, ◌+◌, ◌<◌, true, List, ◌∷◌, length, None, Result, Ok, Err, refl, ap, ◌∙◌, arith, inl, inr}
use Rattle.std.proofs.lemmas.Bool.{lt-leb, le-leb, cases_Bool, cases_lt}
use Rattle.framehop_cfi.specs.EntryExtent.{extent_at, is_zero_length}
use Rattle.framehop_cfi.specs.Section.{Section}
use Rattle.framehop_cfi.specs.Entries.{Cut, no_more, after_zero, cut_by, cut_from, cut, AreOffsets, at_end, at_mark, past_zero, one}
use Rattle.framehop_cfi.specs.declared.extent.EntryExtent.{EntryExtent}
use Rattle.framehop_cfi.specs.declared.entry.UnwindSectionType.{UnwindSectionType}
use Rattle.framehop_cfi.specs.declared.entry.UnwindSectionType.TheVariants.{EhFrame, DebugFrame}
use Rattle.framehop_cfi.specs.declared.read_error.ReadError.{ReadError}
use Rattle.framehop_cfi.proofs.Extents.{extent-within}

module _ (section : Section) where
  -- the offsets from one on
  abbrev Goes : ℕ → Cut → Type 0
  Goes at cut = cut.refusal ≡ None → AreOffsets section at cut.offsets

  on-zero : (at : ℕ) (extent : EntryExtent) (kind : UnwindSectionType) (rest : Cut) → section.kind ≡ kind
      → extent_at section.bytes at ≡ Ok extent → is_zero_length extent ≡ true → Goes extent.end rest
      → Goes at (after_zero kind rest)
  on-zero at extent EhFrame rest kind is zeros goes = λ none. at_mark kind is zeros
  on-zero at extent DebugFrame rest kind is zeros goes = λ none. past_zero kind is zeros (goes none)

  on-extent : (n at : ℕ) (read : Result EntryExtent ReadError) → extent_at section.bytes at ≡ read
      → ((end : ℕ) → at < end → Goes end (cut_from section n end))
      → Goes at (cut_by section at (cut_from section n) read)
  on-extent n at (Err error) is rest = λ none. absurd cc
  on-extent n at (Ok extent) is rest =
      let within = extent-within section.bytes at extent is in
      let behind = within.behind in let ordered = within.ordered in
      let goes = rest extent.end (omega arith) in
      elim (cases_Bool (is_zero_length extent)) as (λ _. Goes at (cut_by section at (cut_from section n) (Ok extent))) [
        | inl zeros ↦ rw zeros (on-zero at extent section.kind (cut_from section n extent.end) refl is zeros goes)
        | inr some ↦ rw some (λ none. one is some (goes none))
      ]

  cut-goes : (n at : ℕ) → length section.bytes < n + at → Goes at (cut_from section n at)
  cut-goes zero at enough = λ none. at_end (omega arith)
  cut-goes (suc n) at enough =
      elim (cases_lt at (length section.bytes)) as (λ _. Goes at (cut_from section (suc n) at)) [
        | inl inside ↦ rw (lt-leb (length section.bytes) at inside) (on-extent n at (extent_at section.bytes at) refl (λ end further. cut-goes n end (omega arith)))
        | inr past-end ↦ rw (le-leb (length section.bytes) at past-end) (λ none. at_end past-end)
      ]

  on-eh-frame : (kind : UnwindSectionType) (rest : Cut) → kind ≡ EhFrame → after_zero kind rest ≡ no_more
  on-eh-frame kind rest is = ap (λ k. after_zero k rest) is

  on-debug-frame : (kind : UnwindSectionType) (rest : Cut) → kind ≡ DebugFrame → after_zero kind rest ≡ rest
  on-debug-frame kind rest is = ap (λ k. after_zero k rest) is

  abbrev Cuts : List ℕ → Cut → Type 0
  Cuts offsets cut = cut ≡ record { offsets = offsets; refusal = None }

  extent-inside : (at : ℕ) (extent : EntryExtent) → extent_at section.bytes at ≡ Ok extent → (at < extent.end) × (at < length section.bytes)
  extent-inside at extent is =
      let within = extent-within section.bytes at extent is in
      let behind = within.behind in let ordered = within.ordered in let inside = within.inside in
      (omega arith, omega arith)

  goes-cut : {at : ℕ} {offsets : List ℕ} → AreOffsets section at offsets → (n : ℕ) → length section.bytes < n + at → Cuts offsets (cut_from section n at)
  goes-cut {at = at} (at_end past-end) zero enough = refl
  goes-cut {at = at} (at_end past-end) (suc n) enough = rw (le-leb (length section.bytes) at past-end) refl
  goes-cut {at = at} (at_mark {extent = extent} kind is zeros) zero enough = let inside = extent-inside at extent is in absurd (omega arith)
  goes-cut {at = at} (at_mark {extent = extent} kind is zeros) (suc n) enough =
      rw (lt-leb (length section.bytes) at (extent-inside at extent is).1, is) (rw zeros (on-eh-frame section.kind (cut_from section n extent.end) kind))
  goes-cut {at = at} (past_zero {extent = extent} kind is zeros rest) zero enough = let inside = extent-inside at extent is in absurd (omega arith)
  goes-cut {at = at} (past_zero {extent = extent} kind is zeros rest) (suc n) enough =
      let inside = extent-inside at extent is in
      rw (lt-leb (length section.bytes) at inside.1, is) (rw zeros (on-debug-frame section.kind (cut_from section n extent.end) kind ∙ goes-cut rest n (omega arith)))
  goes-cut {at = at} (one {extent = extent} is some rest) zero enough = let inside = extent-inside at extent is in absurd (omega arith)
  goes-cut {at = at} (one {extent = extent} {offsets = offsets} is some rest) (suc n) enough =
      let inside = extent-inside at extent is in
      rw (lt-leb (length section.bytes) at inside.1, is) (rw some (ap (λ (c : Cut). record { offsets = at ∷ c.offsets; refusal = c.refusal }) (goes-cut rest n (omega arith))))

  -- where no length is refused, the section is cut at the offsets of its entries
  pub cut-offsets : (cut section).refusal ≡ None → AreOffsets section 0 (cut section).offsets
  unfolding cut
  cut-offsets none = cut-goes (suc (length section.bytes)) 0 (omega arith) none

  pub offsets-cut : (offsets : List ℕ) → AreOffsets section 0 offsets → cut section ≡ record { offsets = offsets; refusal = None }
  unfolding cut
  offsets-cut offsets are = goes-cut are (suc (length section.bytes)) (omega arith)
