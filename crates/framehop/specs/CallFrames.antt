-- The call frame section of a module: the FDE that it has for a relative address, and what that gives (framehop
-- 0.16.0, `ModuleUnwindDataInternal` and `DwarfUnwinder`).
-- The header: LSB, ".eh_frame_hdr".
use Rattle.std.specs.Prelude.{ℕ, ◌+◌, List, Bool, Option, Some, None, Result, Ok, Err}
use Rattle.framehop_core.specs.Memory.{Memory}
use Rattle.framehop_cfi.specs.Section.{Section, section_of}
use Rattle.framehop_cfi.specs.declared.entry.UnwindSectionType.TheVariants.{EhFrame}
use Rattle.framehop_cfi.specs.declared.pointer.BaseAddresses.{BaseAddresses}
use Rattle.framehop_cfi.specs.Header.{Header, fde_offset_in}
use Rattle.framehop_cfi.specs.Row.{Row}
use Rattle.framehop_dwarf.specs.Index.{pairs_of, fde_offset_for}
use Rattle.framehop_dwarf.specs.Unwinder.{Reading, reading_of, found_by, direct_by, header_bases}
use Rattle.framehop_cfi.specs.declared.dwarf_error.DwarfUnwinderError.{DwarfUnwinderError}
use Rattle.framehop_dwarf.specs.declared.index.DwarfCfiIndexError.{DwarfCfiIndexError}
use Rattle.framehop.specs.Policy.{Policy}
use Rattle.framehop.specs.Answer.{Fresh, fresh_of}

-- the section, its header, if it has one, and the base that its file states, an SVMA
pub record CallFrames : Type 0 where
  pub section : Section
  pub header : Option Header
  pub base_svma : ℕ

-- `.eh_frame` with its header, both with the module's base addresses
abbrev pub frames_with_header : List ℕ → List ℕ → BaseAddresses → ℕ → CallFrames
frames_with_header header bytes bases base_svma = record {
  section = section_of EhFrame bases bytes;
  header = Some (record { bases = header_bases bases; bytes = header });
  base_svma = base_svma;
}

-- the bytes of both, the module's base addresses and the base that its file states
pub record HeaderData : Type 0 where
  pub eh_frame_hdr : List ℕ
  pub eh_frame : List ℕ
  pub base_addresses : BaseAddresses
  pub base_svma : ℕ

abbrev pub header_frames : HeaderData → CallFrames
header_frames d = frames_with_header d.eh_frame_hdr d.eh_frame d.base_addresses d.base_svma

-- `.eh_frame` by itself
abbrev pub frames_without_header : List ℕ → BaseAddresses → ℕ → CallFrames
frames_without_header bytes bases base_svma =
    record { section = section_of EhFrame bases bytes; header = None; base_svma = base_svma }

-- the offset of the FDE by all FDEs of the section
abbrev pub offset_among : Result (List (ℕ × ℕ)) DwarfCfiIndexError → ℕ → Option ℕ
offset_among (Ok pairs) relative = fde_offset_for pairs relative
offset_among (Err error) relative = None

-- the offset of the FDE by the header or, where there is none, by all FDEs
abbrev pub offset_by : CallFrames → Option Header → ℕ → Option ℕ
offset_by frames (Some header) relative = fde_offset_in header (frames.base_svma + relative)
offset_by frames None relative = offset_among (pairs_of frames.section frames.base_svma) relative

-- the offset of the FDE for a relative address, if there is one
unfoldable pub fde_offset_of : CallFrames → ℕ → Option ℕ
fde_offset_of frames relative = offset_by frames frames.header relative

-- what the reader of rows gives on an architecture: the rule that a row is translated to, if it is, the rule of an
-- address without a row, and the values of a row without a rule
pub record RowReader (Rule Regs : Type 0) : Type 0 where
  pub translated : Row → Option Rule
  pub uncovered : Rule
  pub direct : List ℕ → Option ℕ → Memory → Row → Bool → Regs → Result (ℕ × Regs) DwarfUnwinderError

-- what is read for an address gives: a rule, or values
abbrev pub answer_of_reading : {Rule Regs : Type 0} → RowReader Rule Regs → Policy → List ℕ → Bool → Reading
    → Option (Fresh Rule Regs)
answer_of_reading reader policy bytes first reading =
    fresh_of (found_by reader.translated reader.uncovered reading)
    (λ regs memory. direct_by (λ row. reader.direct bytes policy.values memory row first regs) reading)

-- what the FDE at an offset gives for an address, an SVMA
unfoldable pub fde_answer : {Rule Regs : Type 0} → RowReader Rule Regs → Policy → Section → ℕ → Bool → ℕ
    → Option (Fresh Rule Regs)
fde_answer reader policy section address first offset =
    answer_of_reading reader policy section.bytes first (reading_of policy.rows section address offset)
