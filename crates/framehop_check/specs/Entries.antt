-- The entries of a call frame section, one after another (DWARF 5 section 6.4.1; LSB, ".eh_frame").
use Rattle.std.specs.Prelude.{ℕ, ◌+◌, ◌<◌, ◌≤◌, ◌≡◌, true, false, List, [], ◌∷◌, length, Result, Ok, Err}
use Rattle.std.specs.Io.Iter.{u64_saturate}
use Rattle.framehop_cfi.specs.Section.{Section}
use Rattle.framehop_cfi.specs.Entry.{head_at, fde_at}
use Rattle.framehop_cfi.specs.EntryExtent.{extent_at, is_zero_length}
use Rattle.framehop_cfi.specs.declared.extent.EntryExtent.{EntryExtent}
use Rattle.framehop_cfi.specs.declared.entry.EntryHead.{EntryHead}
use Rattle.framehop_cfi.specs.declared.entry.EntryHead.TheVariants as head
use Rattle.framehop_cfi.specs.declared.entry.FrameDescriptionEntry.{FrameDescriptionEntry}
use Rattle.framehop_cfi.specs.declared.entry.UnwindSectionType.TheVariants.{EhFrame, DebugFrame}
use Rattle.framehop_cfi.specs.declared.read_error.ReadError.{ReadError}
use Rattle.framehop_check.specs.declared.entries.Entry.{Entry}
use Rattle.framehop_check.specs.declared.entries.Entry.TheVariants.{Fde, Other, Unreadable}
use Rattle.framehop_check.specs.declared.entries.Place.{Place}
use Rattle.framehop_check.specs.declared.entries.Place.TheVariants.{At, CutOff}
use Rattle.framehop_check.specs.declared.missing.Range.{Range}

-- an entry by its head: an FDE can be read if its CIE and its fields can be
abbrev pub entry_if_read : Result FrameDescriptionEntry ReadError → Entry
entry_if_read (Ok fde) = Fde fde
entry_if_read (Err error) = Unreadable

abbrev pub entry_by : Result EntryHead ReadError → Result FrameDescriptionEntry ReadError → Entry
entry_by (Err error) read = Unreadable
entry_by (Ok (head.ZeroLength end)) read = Other
entry_by (Ok (head.Cie at end)) read = Other
entry_by (Ok (head.Fde cie at end)) read = entry_if_read read

-- the entry at an offset
unfoldable pub entry_at : Section → ℕ → Entry
entry_at section at = entry_by (head_at section.kind section.bytes at) (fde_at section at)

-- These are the entries from an offset on, by their lengths: up to the section's end, or in `.eh_frame` to a length of 0, which
-- is passed over in `.debug_frame`. Where a length can't be read nothing can be that is after it.
pub data AreEntries (section : Section) : ℕ → List Entry → Type 0 where
  at_end : {at : ℕ} → length section.bytes ≤ at → AreEntries section at []
  at_mark : {at : ℕ} {extent : EntryExtent} → section.kind ≡ EhFrame → extent_at section.bytes at ≡ Ok extent
      → is_zero_length extent ≡ true → AreEntries section at []
  past_zero : {at : ℕ} {extent : EntryExtent} {entries : List Entry} → section.kind ≡ DebugFrame
      → extent_at section.bytes at ≡ Ok extent → is_zero_length extent ≡ true → AreEntries section extent.end entries
      → AreEntries section at entries
  cut_off : {at : ℕ} {error : ReadError} {entries : List Entry} → at < length section.bytes
      → extent_at section.bytes at ≡ Err error → AreEntries section (length section.bytes) entries
      → AreEntries section at (Unreadable ∷ entries)
  one : {at : ℕ} {extent : EntryExtent} {entries : List Entry} → extent_at section.bytes at ≡ Ok extent
      → is_zero_length extent ≡ false → AreEntries section extent.end entries
      → AreEntries section at (entry_at section at ∷ entries)

-- the FDEs among entries, and how many entries can't be read
abbrev pub with_entry : Entry → List FrameDescriptionEntry → List FrameDescriptionEntry
with_entry (Fde fde) fdes = fde ∷ fdes
with_entry Other fdes = fdes
with_entry Unreadable fdes = fdes

abbrev pub fdes_of : List Entry → List FrameDescriptionEntry
fdes_of [] = []
fdes_of (entry ∷ entries) = with_entry entry (fdes_of entries)

abbrev pub one_if_unreadable : Entry → ℕ
one_if_unreadable Unreadable = 1
one_if_unreadable Other = 0
one_if_unreadable (Fde fde) = 0

abbrev pub unreadable_in : List Entry → ℕ
unreadable_in [] = 0
unreadable_in (entry ∷ entries) = one_if_unreadable entry + unreadable_in entries

-- the addresses that an FDE covers; the last address of 64 bits is in no range
abbrev pub range_of : FrameDescriptionEntry → Range
range_of fde = record { start = fde.initial_address; end = u64_saturate (fde.initial_address + fde.address_range) }

-- ---- one entry after another

-- the entry at a place, or one whose length can't be read
abbrev pub entry_of : Section → Place → Entry
entry_of section (At offset) = entry_at section offset
entry_of section CutOff = Unreadable
