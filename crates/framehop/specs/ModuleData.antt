-- The unwind data of a module, from the table of its sections (framehop 0.16.0, `Module::new`).
use Rattle.std.specs.Prelude.{ℕ, ◌-◌, ◌^◌, ◌&&◌, nat_le, nat_lt, if◌then◌else◌, List, codes, Option, Some, None, option_map, option_and_then, unwrap_or, Result, Ok, Err}
use Rattle.std.specs.declared.ops.Range.{Range}
use Rattle.framehop_cfi.specs.Section.{Section}
use Rattle.framehop_bytes.specs.SectionTable.{SectionTable, range_of, data_of, without_data}
use Rattle.framehop_cfi.specs.declared.entry.UnwindSectionType.TheVariants.{EhFrame, DebugFrame}
use Rattle.framehop_dwarf.specs.Bases.{base_addresses_of, section_in}
use Rattle.framehop_dwarf.specs.Index.{pairs_of}
use Rattle.framehop_dwarf.specs.declared.index.DwarfCfiIndexError.{DwarfCfiIndexError}
use Rattle.framehop_macho.specs.Unwinder.{Text}
use Rattle.framehop_pe.specs.Sections.{Placed}
use Rattle.framehop.specs.CallFrames.{CallFrames, frames_with_header, frames_without_header}
use Rattle.framehop.specs.Modules.{UnwindData, no_unwind_data, call_frames, pe_sections, compact_info}

-- what is found under a name, and the table that is left: data is handed out once
pub record Asked (D : Type 0) : Type 0 where
  pub found : Option D
  pub left : SectionTable D

abbrev pub ask : {D : Type 0} → List ℕ → SectionTable D → Asked D
ask name table = record {
  found = data_of name table.sections;
  left = record table { sections = without_data name table.sections };
}

-- the first, if it has found something, else the second
abbrev pub or_second : {D : Type 0} → Option D → Asked D → Asked D → Asked D
or_second (Some bytes) first second = first
or_second None first second = second

-- the same under the second name, where nothing is found under the first
abbrev pub ask_either : {D : Type 0} → List ℕ → List ℕ → SectionTable D → Asked D
ask_either first second table =
    let asked = ask first table in
    or_second asked.found asked (ask second asked.left)

-- a call frame section without a header has an index of its FDEs, or else is of no use
abbrev pub indexed : Result (List (ℕ × ℕ)) DwarfCfiIndexError → CallFrames → UnwindData
indexed (Ok pairs) frames = call_frames frames
indexed (Err error) frames = no_unwind_data (Some (record { section_type = frames.section.kind; error = error }))

abbrev pub with_index : Section → ℕ → UnwindData
with_index section base_svma =
    indexed (pairs_of section base_svma) (record { section = section; header = None; base_svma = base_svma })

-- a range relative to a base, if both its ends fit 32 bits
abbrev pub relative_range : ℕ → Range ℕ → Option (ℕ × ℕ)
relative_range base range =
    if nat_le base range.start && nat_le base range.end
    && nat_lt (range.start - base) (2 ^ 32) && nat_lt (range.end - base) (2 ^ 32)
    then Some (range.start - base, range.end - base) else None

-- the same, or an empty one
abbrev pub range_or_empty : ℕ → Option (Range ℕ) → ℕ × ℕ
range_or_empty base range = unwrap_or (option_and_then (relative_range base) range) (0, 0)

module _ {D : Type 0} (contents : D → List ℕ) where
  -- `.eh_frame`, with `.eh_frame_hdr` where there is one
  abbrev pub eh_frame_data : D → Option D → SectionTable D → UnwindData
  eh_frame_data eh_frame (Some header) table =
      call_frames (frames_with_header (contents header) (contents eh_frame) (base_addresses_of table.sections)
      table.base_svma)
  eh_frame_data eh_frame None table = with_index (section_in EhFrame table (contents eh_frame)) table.base_svma

  abbrev pub with_eh_frame : D → SectionTable D → UnwindData
  with_eh_frame eh_frame table =
      let header = ask_either (codes ".eh_frame_hdr") (codes "__eh_frame_hdr") table in
      eh_frame_data eh_frame header.found header.left

  -- `.debug_frame`
  abbrev pub debug_frame_data : Option D → SectionTable D → UnwindData
  debug_frame_data (Some debug_frame) table =
      with_index (section_in DebugFrame table (contents debug_frame)) table.base_svma
  debug_frame_data None table = no_unwind_data None

  -- `.eh_frame`, else `.debug_frame`
  abbrev pub by_eh_frame : Option D → SectionTable D → UnwindData
  by_eh_frame (Some eh_frame) table = with_eh_frame eh_frame table
  by_eh_frame None table =
      let debug_frame = ask (codes ".debug_frame") table in
      debug_frame_data debug_frame.found debug_frame.left

  abbrev pub call_frame_data : SectionTable D → UnwindData
  call_frame_data table =
      let eh_frame = ask_either (codes ".eh_frame") (codes "__eh_frame") table in
      by_eh_frame eh_frame.found eh_frame.left

  -- the data under a name with its range relative to the module's base, where both are there and the range fits
  abbrev pub placed : ℕ → Option (Range ℕ) → Option D → Option Placed
  placed base (Some range) (Some bytes) =
      option_map (λ ends. record { bytes = contents bytes; from = ends.0; to = ends.1 }) (relative_range base range)
  placed base (Some range) None = None
  placed base None bytes = None

  abbrev pub placed_in : List ℕ → SectionTable D → Option Placed
  placed_in name table = placed table.base_svma (range_of name table.sections) (data_of name table.sections)

  -- `.pdata`, with `.rdata`, `.xdata` and `.text`
  abbrev pub with_pdata : D → SectionTable D → UnwindData
  with_pdata pdata table =
      let xdata = (ask (codes ".rdata") table).left in
      let text = (ask (codes ".xdata") xdata).left in
      pe_sections (record {
        pdata = contents pdata;
        rdata = placed_in (codes ".rdata") table;
        xdata = placed_in (codes ".xdata") xdata;
        text = placed_in (codes ".text") text;
      })

  -- `.pdata`, else the call frame sections
  abbrev pub by_pdata : Option D → SectionTable D → UnwindData
  by_pdata (Some pdata) table = with_pdata pdata table
  by_pdata None table = call_frame_data table

  abbrev pub pdata_data : SectionTable D → UnwindData
  pdata_data table = let pdata = ask (codes ".pdata") table in by_pdata pdata.found pdata.left

  -- code, from its range's start relative to the base on, where data and range are both there, and else other code; a
  -- range that does not fit gives none
  abbrev pub text_or : ℕ → Option (Range ℕ) → Option D → Option Text → Option Text
  text_or base (Some range) (Some bytes) other =
      option_map (λ ends. record { from = ends.0; bytes = contents bytes }) (relative_range base range)
  text_or base (Some range) None other = other
  text_or base None bytes other = other

  -- the code of the segment `__TEXT`, else that of the section `__text`, which has this range
  abbrev pub text_in : Option (Range ℕ) → SectionTable D → Option Text
  text_in range table =
      text_or table.base_svma (range_of (codes "__TEXT") table.segments) (data_of (codes "__TEXT") table.segments)
      (text_or table.base_svma range (data_of (codes "__text") table.sections) None)

  -- `__unwind_info`, with `__eh_frame`, whose FDEs it names by their offsets, `__stubs`, `__stub_helper` and the code
  abbrev pub with_unwind_info : D → SectionTable D → UnwindData
  with_unwind_info unwind_info table =
      let eh_frame = ask (codes "__eh_frame") table in
      compact_info (record {
        info = record {
          unwind_info = contents unwind_info;
          text = text_in (range_of (codes "__text") table.sections) eh_frame.left;
          stubs = range_or_empty table.base_svma (range_of (codes "__stubs") table.sections);
          stub_helper = range_or_empty table.base_svma (range_of (codes "__stub_helper") table.sections);
        };
        frames =
            option_map
            (λ bytes. frames_without_header (contents bytes) (base_addresses_of table.sections) table.base_svma)
            eh_frame.found;
      })

  -- `__unwind_info`, else the others
  abbrev pub by_unwind_info : Option D → SectionTable D → UnwindData
  by_unwind_info (Some unwind_info) table = with_unwind_info unwind_info table
  by_unwind_info None table = pdata_data table

  -- The unwind data of a module with this table: the first that there is.
  unfoldable pub unwind_data_in : SectionTable D → UnwindData
  unwind_data_in table =
      let unwind_info = ask (codes "__unwind_info") table in
      by_unwind_info unwind_info.found unwind_info.left
