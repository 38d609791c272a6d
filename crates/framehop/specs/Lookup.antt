-- Which unwind data of a module answers a relative address, and what a frame there is unwound by (framehop 0.16.0,
-- `Unwinder::unwind_frame`, over `ModuleUnwindDataInternal`).
use Rattle.std.specs.Prelude.{ℕ, ◌+◌, Bool, if◌then◌else◌, Option, Some, None, option_map, Result, Ok, Err}
use Rattle.framehop_cfi.specs.Entry.{fde_at}
use Rattle.framehop_cfi.specs.Header.{Header}
use Rattle.framehop_cfi.specs.RowAt.{covers}
use Rattle.framehop_cfi.specs.declared.entry.FrameDescriptionEntry.{FrameDescriptionEntry}
use Rattle.framehop_cfi.specs.declared.read_error.ReadError.{ReadError}
use Rattle.framehop_macho.specs.Answer.{Answer}
use Rattle.framehop_macho.specs.Unwinder.{CompactReader, unwound}
use Rattle.framehop_macho.specs.declared.macho.CuiUnwindResult.TheVariants.{ExecRule, NeedDwarf}
use Rattle.framehop_pe.specs.Sections.{Sections}
use Rattle.framehop.specs.CallFrames.{CallFrames, fde_offset_of}
use Rattle.framehop.specs.Compact.{CompactData}
use Rattle.framehop.specs.Modules.{UnwindData, no_unwind_data, call_frames, pe_sections, compact_info}
use Rattle.framehop.specs.declared.lookup.SectionFde.{SectionFde}
use Rattle.framehop.specs.declared.modules.UnwinderError.{UnwinderError}
use Rattle.framehop.specs.declared.modules.UnwinderError.TheVariants.{CompactUnwindInfo, NoDwarfData, NoModuleUnwindData, EhFrameHdrCouldNotFindAddress, DwarfCfiIndexCouldNotFindAddress}

-- the FDE at an offset of call frames
abbrev pub fde_in : CallFrames → ℕ → SectionFde
fde_in frames offset = record { section = frames.section; base_svma = frames.base_svma; offset = offset }

-- the FDE that call frames have for a relative address, if they have one
abbrev pub fde_of : CallFrames → ℕ → Option SectionFde
fde_of frames relative = option_map (fde_in frames) (fde_offset_of frames relative)

-- the one at an offset of `__eh_frame`, if a module has that
abbrev pub named_fde : Option CallFrames → ℕ → Option SectionFde
named_fde frames offset = option_map (λ (f : CallFrames). fde_in f offset) frames

-- an FDE that was read, if it covers an address, an SVMA
abbrev pub if_covering : ℕ → Result FrameDescriptionEntry ReadError → Option FrameDescriptionEntry
if_covering address (Ok fde) = if covers fde address then Some fde else None
if_covering address (Err error) = None

-- the FDE, if it can be read and covers a relative address
abbrev pub covering_fde : SectionFde → ℕ → Option FrameDescriptionEntry
covering_fde fde relative = if_covering (fde.base_svma + relative) (fde_at fde.section fde.offset)

-- why call frames have no FDE for an address: by the header or, where there is none, by all FDEs
abbrev pub no_fde : Option Header → UnwinderError
no_fde (Some header) = EhFrameHdrCouldNotFindAddress
no_fde None = DwarfCfiIndexCouldNotFindAddress

-- what is made of an FDE, or why there is none
abbrev pub fde_or : {A : Type 0} → (SectionFde → A) → UnwinderError → Option SectionFde → Result A UnwinderError
fde_or made error (Some fde) = Ok (made fde)
fde_or made error None = Err error

-- the data that answers an address
pub data DataAt : Type 0 where
  fde_data : SectionFde → DataAt
  compact_data : CompactData → DataAt
  pe_data : Sections → DataAt

-- the same of the unwind data of a module, or why none does
abbrev pub data_at : UnwindData → ℕ → Result DataAt UnwinderError
data_at (call_frames frames) relative = fde_or fde_data (no_fde frames.header) (fde_of frames relative)
data_at (compact_info d) relative = Ok (compact_data d)
data_at (pe_sections sections) relative = Ok (pe_data sections)
data_at (no_unwind_data refusal) relative = Err NoModuleUnwindData

-- what a frame is unwound by: an FDE, a rule of compact unwind info, or the unwind info of a PE module
pub data EntryAt (Rule : Type 0) : Type 0 where
  fde_entry : SectionFde → EntryAt Rule
  rule_entry : Rule → EntryAt Rule
  pe_entry : Sections → EntryAt Rule

-- by what compact unwind info gives: its rule, or the FDE that it names
abbrev pub compact_entry : {Rule : Type 0} → Option CallFrames → Answer Rule → Result (EntryAt Rule) UnwinderError
compact_entry frames (Ok (ExecRule rule)) = Ok (rule_entry rule)
compact_entry frames (Ok (NeedDwarf offset)) = fde_or fde_entry NoDwarfData (named_fde frames offset)
compact_entry frames (Err error) = Err (CompactUnwindInfo error)

-- by the data that answers the address, in a frame of this kind (`true`: the first)
abbrev pub entry_by : {Rule : Type 0} → CompactReader Rule → ℕ → Bool → Result DataAt UnwinderError
    → Result (EntryAt Rule) UnwinderError
entry_by reader relative first (Ok (fde_data fde)) = Ok (fde_entry fde)
entry_by reader relative first (Ok (compact_data d)) = compact_entry d.frames (unwound reader d.info relative first)
entry_by reader relative first (Ok (pe_data sections)) = Ok (pe_entry sections)
entry_by reader relative first (Err error) = Err error

abbrev pub entry_at : {Rule : Type 0} → CompactReader Rule → UnwindData → ℕ → Bool
    → Result (EntryAt Rule) UnwinderError
entry_at reader unwind_data relative first = entry_by reader relative first (data_at unwind_data relative)
