-- Where the unwind data of a module tells how to unwind from an address.
use Rattle.std.specs.Prelude.{ℕ, ◌+◌, Option, Some, None}
use Rattle.framehop_cfi.specs.declared.storage.StorageLimits.{StorageLimits}
use Rattle.framehop_dwarf.specs.Unwinder.{Reading, unread, uncovered, by_row, reading_of}
use Rattle.framehop.specs.declared.lookup.SectionFde.{SectionFde}
use Rattle.framehop_explain.specs.declared.kind.UnwindDataKind.{UnwindDataKind}
use Rattle.framehop_explain.specs.declared.kind.UnwindDataKind.TheVariants.{IndexRefused, EhFrameWithHeader, Indexed}
use Rattle.framehop_explain.specs.declared.source.RowSource.{RowSource}
use Rattle.framehop_explain.specs.declared.source.RowSource.TheVariants.{Unread, NoRow, Row}
use Rattle.framehop_explain.specs.declared.source.Source.{Source}
use Rattle.framehop_explain.specs.declared.source.Source.TheVariants.{NoUnwindData, NotInHeader, NotInIndex, Fde}

-- what an FDE has for an address: its row, none, or a refusal
abbrev pub row_source : Reading → RowSource
row_source (unread error) = Unread error
row_source uncovered = NoRow
row_source (by_row row) = Row

-- what it has for a relative address
abbrev pub fde_row : Option StorageLimits → ℕ → SectionFde → RowSource
fde_row limits relative fde = row_source (reading_of limits fde.section (fde.base_svma + relative) fde.offset)

-- by an FDE
abbrev pub fde_source : Option StorageLimits → ℕ → SectionFde → Source
fde_source limits relative fde = Fde fde.section.kind fde.offset (fde_row limits relative fde)

-- by no data, of which there may be some: a refused index, or a call frame section without an FDE for the address
abbrev pub no_source : UnwindDataKind → Source
no_source (IndexRefused kind error) = NoUnwindData (Some (record { section_type = kind; error = error }))
no_source EhFrameWithHeader = NotInHeader
no_source (Indexed kind) = NotInIndex kind
no_source other = NoUnwindData None
