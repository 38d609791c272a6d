-- Where a frame came from, by the unwind data of the module that covers it, and what that tells.
use Rattle.std.specs.Prelude.{◌≡◌, ℕ, Bool, List, Option, Result, Ok, Err}
use Rattle.framehop_cfi.specs.Row.{Row}
use Rattle.framehop_cfi.specs.declared.storage.StorageLimits.{StorageLimits}
use Rattle.framehop_cfi.specs.declared.dwarf_error.DwarfUnwinderError.{DwarfUnwinderError}
use Rattle.framehop_macho.specs.Unwinder.{CompactReader}
use Rattle.framehop_pe.specs.Sections.{Sections}
use Rattle.framehop_pe.specs.declared.pe.PeUnwinderError.{PeUnwinderError}
use Rattle.framehop.specs.Lookup.{DataAt, fde_data, compact_data, pe_data, data_at, EntryAt, fde_entry, rule_entry, pe_entry, entry_at}
use Rattle.framehop.specs.Modules.{UnwindData}
use Rattle.framehop.specs.declared.modules.UnwinderError.{UnwinderError}
use Rattle.framehop_explain.specs.declared.kind.UnwindDataKind.{UnwindDataKind}
use Rattle.framehop_explain.specs.declared.source.PeSource.{PeSource}
use Rattle.framehop_explain.specs.declared.source.Source.{Source}
use Rattle.framehop_explain.specs.declared.source.Source.TheVariants.{Pe}
use Rattle.framehop_explain.specs.declared.told.Told.{Told}
use Rattle.framehop_explain.specs.declared.told.Told.TheVariants.{Rule, Refused}
use Rattle.framehop_explain.specs.CompactSource.{CodeReader, IsCompactSource}
use Rattle.framehop_explain.specs.Kind.{kind_of}
use Rattle.framehop_explain.specs.Source.{fde_source, no_source}
use Rattle.framehop_explain.specs.Told.{told_by, pe_reason, fde_told}

-- what an architecture makes of PE unwind info, of code and of compact unwind info
pub record Places (R : Type 0) : Type 1 where
  pub pe : Sections → ℕ → Bool → PeSource
  pub code : CodeReader R
  pub compact : CompactReader R

module _ {R : Type 0} (places : Places R) (limits : Option StorageLimits) where
  -- the source of a relative address in a frame of this kind (`true`: the first), by the data that answers the address
  -- or, where none does, by its kind
  abbrev pub IsSourceBy : UnwindDataKind → ℕ → Bool → Result DataAt UnwinderError → Source → Type 0
  IsSourceBy kind relative first (Ok (fde_data fde)) source = source ≡ fde_source limits relative fde
  IsSourceBy kind relative first (Ok (pe_data sections)) source = source ≡ Pe (places.pe sections relative first)
  IsSourceBy kind relative first (Ok (compact_data d)) source =
      IsCompactSource places.code places.compact limits d relative first source
  IsSourceBy kind relative first (Err error) source = source ≡ no_source kind

  -- the same of the unwind data of a module, with limits of rows
  abbrev pub IsSource : UnwindData → ℕ → Bool → Source → Type 0
  IsSource unwind_data relative first source =
      IsSourceBy (kind_of unwind_data) relative first (data_at unwind_data relative) source

-- what the architecture makes of rows, of PE and of compact unwind info, from registers over a memory
pub record Values (R S : Type 0) : Type 0 where
  pub translated : Row → Option R
  pub uncovered : R
  pub direct : List ℕ → Row → Result (ℕ × S) DwarfUnwinderError
  pub found : Sections → ℕ → Bool → Result (Option R) PeUnwinderError
  pub computed : Sections → ℕ → Bool → Result (ℕ × S) PeUnwinderError
  pub compact : CompactReader R

module _ {R S : Type 0} (values : Values R S) (limits : Option StorageLimits) where
  -- what is told by what a frame is unwound by, or why it is unwound by nothing
  abbrev pub entry_told : ℕ → Bool → Result (EntryAt R) UnwinderError → Told R
  entry_told relative first (Ok (fde_entry fde)) =
      fde_told values.translated values.uncovered (values.direct fde.section.bytes) limits relative fde
  entry_told relative first (Ok (rule_entry rule)) = Rule rule
  entry_told relative first (Ok (pe_entry sections)) =
      told_by pe_reason (values.found sections relative first) (values.computed sections relative first)
  entry_told relative first (Err error) = Refused error

  -- what is told by the unwind data of a module
  abbrev pub IsTold : UnwindData → ℕ → Bool → Told R → Type 0
  IsTold unwind_data relative first told =
      told ≡ entry_told relative first (entry_at values.compact unwind_data relative first)
