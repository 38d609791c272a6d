-- What a module's call frame section has for an address: the FDE by the header, and the row by the FDE.
-- (framehop 0.16.0, `DwarfUnwinder`; LSB, ".eh_frame_hdr".)
use Rattle.std.specs.Prelude.{ℕ, ◌≡◌, ◌≢◌, Bool, true, false, List, Option, Some, None, Result, Ok, Err, IsOk, IsErr}
use Rattle.framehop_cfi.specs.Section.{Section}
use Rattle.framehop_cfi.specs.Entry.{fde_at}
use Rattle.framehop_cfi.specs.EntryMeaning.{IsFde}
use Rattle.framehop_cfi.specs.Row.{Row}
use Rattle.framehop_cfi.specs.RowAt.{row_at}
use Rattle.framehop_cfi.specs.RowMeaning.{IsRowAt}
use Rattle.framehop_cfi.specs.declared.storage.StorageLimits.{StorageLimits}
use Rattle.framehop_cfi.specs.declared.entry.FrameDescriptionEntry.{FrameDescriptionEntry}
use Rattle.framehop_cfi.specs.declared.read_error.ReadError.{ReadError}
use Rattle.framehop_cfi.specs.declared.read_error.ReadError.TheVariants.{NoRow}
use Rattle.framehop_dwarf.specs.Told.{out_of_memory}
use Rattle.framehop_cfi.specs.declared.dwarf_error.DwarfUnwinderError.{DwarfUnwinderError}
use Rattle.framehop_cfi.specs.declared.dwarf_error.DwarfUnwinderError.TheVariants.{FdeFromOffsetFailed, UnwindInfoForAddressFailed}
use Rattle.framehop_cfi.specs.Header.{Header, layout_of, fde_offset_in}
use Rattle.framehop_cfi.specs.declared.pointer.BaseAddresses.{BaseAddresses}
use Rattle.framehop_cfi.specs.declared.pointer.SectionBaseAddresses.{SectionBaseAddresses}

-- what a header's pointers count from: its own start stands for the data
abbrev pub header_bases : BaseAddresses → SectionBaseAddresses
header_bases bases = record { section = bases.eh_frame_hdr; text = bases.text; «data» = bases.eh_frame_hdr }

-- the header of these bytes, exactly where it can be read
abbrev pub HasHeader : SectionBaseAddresses → List ℕ → Option Header → Type 0
HasHeader bases bytes None = IsErr (layout_of bases bytes)
HasHeader bases bytes (Some header) = IsOk (layout_of bases bytes) × (header ≡ record { bases = bases; bytes = bytes })

-- the offset of the FDE that the header has for an address; without a header there is none
abbrev pub fde_offset_for : Option Header → ℕ → Option ℕ
fde_offset_for None address = None
fde_offset_for (Some header) address = fde_offset_in header address

-- what a call frame section has for an address, by the FDE at an offset: no FDE is there, it has no row for the
-- address, or this row
pub data Reading : Type 0 where
  unread : ReadError → Reading
  uncovered : Reading
  by_row : Row → Reading

-- the same by what was read: of the row, of the FDE, and of both
abbrev pub of_row : Result Row ReadError → Reading
of_row (Ok row) = by_row row
of_row (Err error) = uncovered

abbrev pub of_fde : Option StorageLimits → Section → ℕ → Result FrameDescriptionEntry ReadError → Reading
of_fde limits section address (Ok fde) = of_row (row_at limits section fde address)
of_fde limits section address (Err error) = unread error

unfoldable pub reading_of : Option StorageLimits → Section → ℕ → ℕ → Reading
reading_of limits section address offset = of_fde limits section address (fde_at section offset)

-- the same, by what stands in the bytes
abbrev pub IsReading : Option StorageLimits → Section → ℕ → ℕ → Reading → Type 0
IsReading limits section address offset (unread error) = (fde : FrameDescriptionEntry) → IsFde section offset fde → ⊥
IsReading limits section address offset uncovered =
    (fde : FrameDescriptionEntry) × IsFde section offset fde × ((row : Row)
    → IsRowAt limits section fde address row → ⊥)
IsReading limits section address offset (by_row row) =
    (fde : FrameDescriptionEntry) × IsFde section offset fde × IsRowAt limits section fde address row

-- what is found by what is read: a refusal where there is no FDE, the rule of an address without a row, that of the
-- row, or none where its values are computed
abbrev pub found_by : {R : Type 0} → (Row → Option R) → R → Reading → Result (Option R) DwarfUnwinderError
found_by translated rule (unread error) = Err (FdeFromOffsetFailed error)
found_by translated rule uncovered = Ok (Some rule)
found_by translated rule (by_row row) = Ok (translated row)

-- the direct result of what is read, where there is no rule
abbrev pub direct_by : {A : Type 0} → (Row → Result A DwarfUnwinderError) → Reading → Result A DwarfUnwinderError
direct_by direct (unread error) = Err (FdeFromOffsetFailed error)
direct_by direct uncovered = Err (UnwindInfoForAddressFailed NoRow)
direct_by direct (by_row row) = direct row

-- a fact about the row that is read, if one is
abbrev pub OfRow : (Row → Type 0) → Reading → Type 0
OfRow P (unread error) = Unit {0}
OfRow P uncovered = Unit {0}
OfRow P (by_row row) = P row

-- what a look for the row has found: whether there is one, which is then the current one
abbrev pub HasFound : Result Bool DwarfUnwinderError → Row → Reading → Type 0
HasFound (Ok true) row reading = reading ≡ by_row row
HasFound (Ok false) row reading = reading ≡ uncovered
HasFound (Err error) row reading =
    error ≢ out_of_memory → (e : ReadError) × (error ≡ FdeFromOffsetFailed e) × (reading ≡ unread e)
