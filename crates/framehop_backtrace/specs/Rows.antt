-- What the modules' call frame information has for a frame.
use Rattle.std.specs.Prelude.{⊤, ℕ, ◌+◌, ◌-◌, Bool, List, Option, Some, None, Result, Ok, Err}
use Rattle.framehop_core.specs.CodeAddress.{FrameLocation, lookup_address, is_first_frame}
use Rattle.framehop_cfi.specs.Row.{Row}
use Rattle.framehop_cfi.specs.declared.storage.StorageLimits.{StorageLimits}
use Rattle.framehop_dwarf.specs.Unwinder.{Reading, unread, uncovered as reads_uncovered, by_row as reads_row, reading_of}
use Rattle.framehop_macho.specs.Unwinder.{CompactReader}
use Rattle.framehop.specs.Lookup.{EntryAt, fde_entry, rule_entry, pe_entry, entry_at}
use Rattle.framehop.specs.Modules.{ModuleView, UnwindData, covering}
use Rattle.framehop.specs.declared.lookup.SectionFde.{SectionFde}
use Rattle.framehop.specs.declared.modules.UnwinderError.{UnwinderError}
use Rattle.framehop_backtrace.specs.declared.rows.RowFinding.{RowFinding}
use Rattle.framehop_backtrace.specs.declared.rows.RowFinding.TheVariants.{Row as FoundRow, Uncovered, NoRow}

-- A row, and the bytes of the section in which its expressions lie; or an FDE that does not cover the address; or
-- neither.
pub data Finding : Type 0 where
  by_row : List ℕ → Row → Finding
  uncovered : Finding
  no_row : Finding

-- a row is found
abbrev pub IsRow : Finding → Type 0
IsRow (by_row section row) = ⊤
IsRow uncovered = ⊥
IsRow no_row = ⊥

-- a row, or else another finding
abbrev pub row_or : Finding → Finding → Finding
row_or (by_row section row) other = by_row section row
row_or uncovered other = other
row_or no_row other = other

-- a first source's row, or else a second one's, or else what the first has found
abbrev pub or_else : Finding → Finding → Finding
or_else first second = row_or first (row_or second first)

-- what a call has found, whose context has this row
abbrev pub finding_of : RowFinding → Row → Finding
finding_of (FoundRow section) row = by_row section.now row
finding_of Uncovered row = uncovered
finding_of NoRow row = no_row

-- by what is read of an FDE
abbrev pub finding_by : List ℕ → Reading → Finding
finding_by bytes (reads_row row) = by_row bytes row
finding_by bytes reads_uncovered = uncovered
finding_by bytes (unread error) = no_row

-- by an FDE, for a relative address
abbrev pub finding_by_fde : Option StorageLimits → ℕ → SectionFde → Finding
finding_by_fde limits relative fde =
    finding_by fde.section.bytes (reading_of limits fde.section (fde.base_svma + relative) fde.offset)

-- by what a frame is unwound by
abbrev pub finding_by_entry : {Rule : Type 0} → Option StorageLimits → ℕ → Result (EntryAt Rule) UnwinderError → Finding
finding_by_entry limits relative (Ok (fde_entry fde)) = finding_by_fde limits relative fde
finding_by_entry limits relative (Ok (rule_entry rule)) = no_row
finding_by_entry limits relative (Ok (pe_entry sections)) = no_row
finding_by_entry limits relative (Err error) = no_row

module _ {Rule : Type 0} (compact : CompactReader Rule) (limits : Option StorageLimits) where
  -- by the unwind data of a module, for a relative address in a frame of this kind
  abbrev pub finding_in : UnwindData → ℕ → Bool → Finding
  finding_in unwind_data relative first = finding_by_entry limits relative (entry_at compact unwind_data relative first)

  abbrev pub finding_of_module : ℕ → Bool → Option ModuleView → Finding
  finding_of_module address first (Some m) = finding_in m.unwind_data (address - m.base_avma) first
  finding_of_module address first None = no_row

  -- what the modules have for a frame
  abbrev pub rows_of : List ModuleView → FrameLocation → Finding
  rows_of modules location =
      finding_of_module (lookup_address location) (is_first_frame location) (covering modules (lookup_address location))
