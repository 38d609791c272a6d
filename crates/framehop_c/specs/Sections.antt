-- What C tells of a module's sections.
use Rattle.std.specs.Prelude.{ℕ, List, [], ◌∷◌, Option, Some, None, if◌then◌else◌, codes}
use Rattle.std.specs.Borrow.{Bor}
use Rattle.std.specs.declared.ops.Range.{Range}
use Rattle.framehop_bytes.specs.SectionTable.{SectionTable}
use Rattle.framehop_bytes.specs.ExplicitSections.{under}
use Rattle.framehop_c.specs.declared.sections.FramehopSection.{FramehopSection}
use Rattle.framehop_c.specs.declared.sections.FramehopSections.{FramehopSections}

-- the addresses, if there are any
abbrev pub range_in : FramehopSection → Option (Range ℕ)
range_in section =
    if section.has_range then Some (record { start = section.svma_start; end = section.svma_end }) else None

-- the bytes, if there are any
abbrev pub bytes_in : FramehopSection → Option (Bor (List ℕ))
bytes_in section = if section.has_bytes then Some section.bytes else None

-- each section and segment with the names that it goes by, its range and its bytes, where they are asked for
abbrev pub table_in : FramehopSections → SectionTable (Bor (List ℕ))
table_in c = record {
  base_svma = c.base_svma;
  sections =
      under (codes ".pdata" ∷ []) None (bytes_in c.pdata)
      ∷ under (codes ".rdata" ∷ []) (range_in c.rdata) (bytes_in c.rdata)
      ∷ under (codes ".xdata" ∷ []) (range_in c.xdata) (bytes_in c.xdata)
      ∷ under (codes "__text" ∷ codes ".text" ∷ []) (range_in c.text) (bytes_in c.text)
      ∷ under (codes "__stubs" ∷ []) (range_in c.stubs) None
      ∷ under (codes "__stub_helper" ∷ []) (range_in c.stub_helper) None
      ∷ under (codes "__got" ∷ codes ".got" ∷ []) (range_in c.got) None
      ∷ under (codes "__unwind_info" ∷ []) None (bytes_in c.unwind_info)
      ∷ under (codes "__eh_frame" ∷ codes ".eh_frame" ∷ []) (range_in c.eh_frame) (bytes_in c.eh_frame)
      ∷ under (codes "__eh_frame_hdr" ∷ codes ".eh_frame_hdr" ∷ []) (range_in c.eh_frame_hdr) (bytes_in c.eh_frame_hdr)
      ∷ under (codes "__debug_frame" ∷ codes ".debug_frame" ∷ []) None (bytes_in c.debug_frame)
      ∷ [];
  segments = under (codes "__TEXT" ∷ []) (range_in c.text_segment) (bytes_in c.text_segment) ∷ [];
}
