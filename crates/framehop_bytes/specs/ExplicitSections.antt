-- The sections of a module that gives them one by one, as a table by name.
-- (framehop 0.16.0, `ExplicitModuleSectionInfo`.)
use Rattle.std.specs.Prelude.{◌≡◌, ⊤, ℕ, List, [], ◌∷◌, Option, Some, None, codes}
use Rattle.std.specs.List.{AllZip}
use Rattle.std.specs.declared.ops.Range.{Range}
use Rattle.framehop_bytes.specs.SectionTable.{Entry, SectionTable}
use Rattle.framehop_bytes.specs.declared.section.ExplicitModuleSectionInfo.{ExplicitModuleSectionInfo}

-- the entry under these names
abbrev pub under : {D : Type 0} → List (List ℕ) → Option (Range ℕ) → Option D → Entry D
under names range contents = record { names = names; range = range; contents = contents }

-- each section and segment with the names that it goes by, its range and its data
abbrev pub table_of : {D : Type 0} → ExplicitModuleSectionInfo D → SectionTable D
table_of info = record {
  base_svma = info.base_svma;
  sections =
      under (codes "__text" ∷ codes ".text" ∷ []) info.text_svma info.text
      ∷ under (codes "__stubs" ∷ []) info.stubs_svma None
      ∷ under (codes "__stub_helper" ∷ []) info.stub_helper_svma None
      ∷ under (codes "__got" ∷ codes ".got" ∷ []) info.got_svma None
      ∷ under (codes "__unwind_info" ∷ []) None info.unwind_info
      ∷ under (codes "__eh_frame" ∷ codes ".eh_frame" ∷ []) info.eh_frame_svma info.eh_frame
      ∷ under (codes "__eh_frame_hdr" ∷ codes ".eh_frame_hdr" ∷ []) info.eh_frame_hdr_svma info.eh_frame_hdr
      ∷ under (codes "__debug_frame" ∷ codes ".debug_frame" ∷ []) None info.debug_frame
      ∷ [];
  segments = under (codes "__TEXT" ∷ []) info.text_segment_svma info.text_segment ∷ [];
}

-- a clone of data, or nothing for nothing
abbrev pub IsDataCloneBy : {D : Type 0} → (D → D → Type 0) → Option D → Option D → Type 0
IsDataCloneBy is_clone None None = ⊤
IsDataCloneBy is_clone (Some original) (Some copy) = is_clone original copy
IsDataCloneBy is_clone None (Some copy) = ⊥
IsDataCloneBy is_clone (Some original) None = ⊥

-- the data of each section and segment
abbrev pub contents_of : {D : Type 0} → ExplicitModuleSectionInfo D → List (Option D)
contents_of info =
    info.text ∷ info.unwind_info ∷ info.eh_frame ∷ info.eh_frame_hdr ∷ info.debug_frame ∷ info.text_segment ∷ []

-- the same addresses, with the data of another
abbrev pub with_contents_of : {D : Type 0} → (other info : ExplicitModuleSectionInfo D) → ExplicitModuleSectionInfo D
with_contents_of other info = record info {
  text = other.text;
  unwind_info = other.unwind_info;
  eh_frame = other.eh_frame;
  eh_frame_hdr = other.eh_frame_hdr;
  debug_frame = other.debug_frame;
  text_segment = other.text_segment;
}

-- a clone: the same addresses, and clones of the data
pub record IsCloneBy {D : Type 0} (is_clone : D → D → Type 0) (info copy : ExplicitModuleSectionInfo D) : Type 0 where
  pub addresses : copy ≡ with_contents_of copy info
  pub contents : AllZip (IsDataCloneBy is_clone) (contents_of info) (contents_of copy)

-- each clone equals its original
abbrev pub ClonesEqual : {D : Type 0} → (D → D → Type 0) → Type 0
ClonesEqual {D} is_clone = (original copy : D) → is_clone original copy → copy ≡ original
