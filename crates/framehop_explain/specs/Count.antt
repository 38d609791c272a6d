-- How much unwind data a module has.
use Rattle.std.specs.Prelude.{◌≡◌, ℕ, ◌-◌, ◌/◌, List, length, Option, Some, None, Result, Ok, Err}
use Rattle.framehop_cfi.specs.Header.{Header, layout_of}
use Rattle.framehop_cfi.specs.Layout.{Layout}
use Rattle.framehop_cfi.specs.declared.read_error.ReadError.{ReadError}
use Rattle.framehop_dwarf.specs.Index.{IsIndexOfAll}
use Rattle.framehop_macho.specs.UnwindInfo.{Lists, shared_lists_of}
use Rattle.framehop_macho.specs.declared.unwind_info.error.CompactReadError.{CompactReadError}
use Rattle.framehop.specs.CallFrames.{CallFrames}
use Rattle.framehop.specs.Modules.{UnwindData, no_unwind_data, call_frames, pe_sections, compact_info}
use Rattle.framehop_explain.specs.declared.count.UnwindDataCount.{UnwindDataCount}
use Rattle.framehop_explain.specs.declared.count.UnwindDataCount.TheVariants.{None as NoCount, Fdes, Rows, NoRows, Functions, Pages, NoPages}

-- the rows of a header's table, or why it can't be read
abbrev pub rows_in : Result Layout ReadError → UnwindDataCount
rows_in (Ok layout) = Rows layout.count
rows_in (Err error) = NoRows error

-- The pages of `__unwind_info`, or why its index can't be read: entries have 12 bytes, and the last is a sentinel (Apple,
-- mach-o/compact_unwind_encoding.h, struct unwind_info_section_header_index_entry).
abbrev pub pages_in : Result Lists CompactReadError → UnwindDataCount
pages_in (Ok lists) = Pages (length lists.index / 12 - 1)
pages_in (Err error) = NoPages error

-- the pairs of an index of all FDEs of a section
abbrev pub IsIndexCount : CallFrames → UnwindDataCount → Type 0
IsIndexCount frames count =
    (index : List (ℕ × ℕ)) × IsIndexOfAll frames.section frames.base_svma index × (count ≡ Fdes (length index))

-- of a call frame section: the rows of its header's table or, where it has no header, the FDEs of an index
abbrev pub IsFramesCount : CallFrames → Option Header → UnwindDataCount → Type 0
IsFramesCount frames (Some header) count = count ≡ rows_in (layout_of header.bases header.bytes)
IsFramesCount frames None count = IsIndexCount frames count

-- the same of each kind of unwind data; functions in `.pdata` have 12 bytes (Microsoft, "x64 exception handling", struct
-- RUNTIME_FUNCTION)
abbrev pub IsCountOf : UnwindData → UnwindDataCount → Type 0
IsCountOf (no_unwind_data refusal) count = count ≡ NoCount
IsCountOf (call_frames frames) count = IsFramesCount frames frames.header count
IsCountOf (pe_sections sections) count = count ≡ Functions (length sections.pdata / 12)
IsCountOf (compact_info d) count = count ≡ pages_in (shared_lists_of d.info.unwind_info)
