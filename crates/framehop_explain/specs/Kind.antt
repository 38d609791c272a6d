-- What kind of unwind data a module has.
use Rattle.std.specs.Prelude.{Option, Some, None, is_some}
use Rattle.framehop_cfi.specs.Header.{Header}
use Rattle.framehop_cfi.specs.declared.entry.UnwindSectionType.{UnwindSectionType}
use Rattle.framehop.specs.Modules.{UnwindData, no_unwind_data, call_frames, pe_sections, compact_info}
use Rattle.framehop_explain.specs.declared.kind.UnwindDataKind.{UnwindDataKind}
use Rattle.framehop_explain.specs.declared.kind.UnwindDataKind.TheVariants.{None as NoUnwindData, IndexRefused, EhFrameWithHeader, Indexed, Pe, Compact}

-- a call frame section: by its header or, where there is none, by an index
abbrev pub frames_kind : UnwindSectionType → Option Header → UnwindDataKind
frames_kind kind (Some header) = EhFrameWithHeader
frames_kind kind None = Indexed kind

-- the kind of a module's unwind data
abbrev pub kind_of : UnwindData → UnwindDataKind
kind_of (no_unwind_data None) = NoUnwindData
kind_of (no_unwind_data (Some refusal)) = IndexRefused refusal.section_type refusal.error
kind_of (call_frames frames) = frames_kind frames.section.kind frames.header
kind_of (pe_sections sections) = Pe
kind_of (compact_info d) = Compact (is_some d.frames)
