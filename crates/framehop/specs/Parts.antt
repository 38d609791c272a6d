-- Parts of the unwind data of a module.
use Rattle.std.specs.Prelude.{Bool, true, false, Option, Some, None}
use Rattle.framehop_cfi.specs.Section.{Section}
use Rattle.framehop_pe.specs.Sections.{Sections}
use Rattle.framehop.specs.Modules.{UnwindData, no_unwind_data, call_frames, pe_sections, compact_info}

-- there is unwind data
abbrev pub is_unwind_data : UnwindData → Bool
is_unwind_data (no_unwind_data refusal) = false
is_unwind_data (call_frames frames) = true
is_unwind_data (pe_sections sections) = true
is_unwind_data (compact_info d) = true

-- the call frame section that a module unwinds by, if it does
abbrev pub frames_in : UnwindData → Option Section
frames_in (call_frames frames) = Some frames.section
frames_in (no_unwind_data refusal) = None
frames_in (pe_sections sections) = None
frames_in (compact_info d) = None

-- the sections with PE unwind info, if it unwinds by that
abbrev pub pe_in : UnwindData → Option Sections
pe_in (pe_sections sections) = Some sections
pe_in (no_unwind_data refusal) = None
pe_in (call_frames frames) = None
pe_in (compact_info d) = None
