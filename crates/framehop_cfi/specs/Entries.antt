-- The entries of a section, one after another (DWARF 5 section 6.4.1; LSB, ".eh_frame"): first where each begins, by
-- the lengths alone, and then what each is.
use Rattle.std.specs.Prelude.{ℕ, zero, suc, ◌≤◌, ◌≡◌, true, false, List, [], ◌∷◌, length, Option, Some, None, Result, Ok, Err, nat_le, if◌then◌else◌}
use Rattle.framehop_cfi.specs.EntryExtent.{extent_at, is_zero_length}
use Rattle.framehop_cfi.specs.Section.{Section}
use Rattle.framehop_cfi.specs.declared.extent.EntryExtent.{EntryExtent}
use Rattle.framehop_cfi.specs.declared.entry.UnwindSectionType.{UnwindSectionType}
use Rattle.framehop_cfi.specs.declared.entry.UnwindSectionType.TheVariants.{EhFrame, DebugFrame}
use Rattle.framehop_cfi.specs.declared.read_error.ReadError.{ReadError}

-- a section cut into its entries: the offset of each, and why the next length can't be read, if one can't
pub record Cut : Type 0 where
  pub offsets : List ℕ
  pub refusal : Option ReadError

-- no more entries
abbrev pub no_more : Cut
no_more = record { offsets = []; refusal = None }

-- a length of 0 ends `.eh_frame`, and is passed over in `.debug_frame`
abbrev pub after_zero : UnwindSectionType → Cut → Cut
after_zero EhFrame rest = no_more
after_zero DebugFrame rest = rest

-- an entry at an offset by its length, and then the rest
abbrev pub cut_by : Section → ℕ → (ℕ → Cut) → Result EntryExtent ReadError → Cut
cut_by section at rest (Err error) = record { offsets = []; refusal = Some error }
cut_by section at rest (Ok extent) =
    if is_zero_length extent then after_zero section.kind (rest extent.end)
    else (record { offsets = at ∷ (rest extent.end).offsets; refusal = (rest extent.end).refusal })

-- the bytes from an offset on, cut
abbrev pub cut_from : Section → ℕ → ℕ → Cut
cut_from section zero at = no_more
cut_from section (suc n) at =
    if nat_le (length section.bytes) at then no_more
    else cut_by section at (cut_from section n) (extent_at section.bytes at)

-- the whole section, cut
unfoldable pub cut : Section → Cut
cut section = cut_from section (suc (length section.bytes)) 0

-- These are the offsets of the entries from one on, by their lengths: up to the section's end, or in `.eh_frame` to a
-- length of 0, which is passed over in `.debug_frame`.
pub data AreOffsets (section : Section) : ℕ → List ℕ → Type 0 where
  at_end : {at : ℕ} → length section.bytes ≤ at → AreOffsets section at []
  at_mark : {at : ℕ} {extent : EntryExtent} → section.kind ≡ EhFrame → extent_at section.bytes at ≡ Ok extent
      → is_zero_length extent ≡ true → AreOffsets section at []
  past_zero : {at : ℕ} {extent : EntryExtent} {offsets : List ℕ} → section.kind ≡ DebugFrame
      → extent_at section.bytes at ≡ Ok extent → is_zero_length extent ≡ true → AreOffsets section extent.end offsets
      → AreOffsets section at offsets
  one : {at : ℕ} {extent : EntryExtent} {offsets : List ℕ} → extent_at section.bytes at ≡ Ok extent
      → is_zero_length extent ≡ false → AreOffsets section extent.end offsets → AreOffsets section at (at ∷ offsets)
