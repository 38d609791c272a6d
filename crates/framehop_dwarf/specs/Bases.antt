-- The base addresses of a module, by the ranges of its sections.
use Rattle.std.specs.Prelude.{ℕ, List, codes, Option, Some, None}
use Rattle.std.specs.Option.{option_or}
use Rattle.std.specs.declared.ops.Range.{Range}
use Rattle.framehop_bytes.specs.SectionTable.{Entry, SectionTable, range_of}
use Rattle.framehop_cfi.specs.Section.{Section, section_of}
use Rattle.framehop_cfi.specs.declared.entry.UnwindSectionType.{UnwindSectionType}
use Rattle.framehop_cfi.specs.declared.pointer.BaseAddresses.{BaseAddresses}

-- a range's start, or 0 where there is no range
abbrev pub start_of : Option (Range ℕ) → ℕ
start_of None = 0
start_of (Some range) = range.start

-- the base addresses by the ranges of `.eh_frame`, `.eh_frame_hdr`, the text and the global offset table
abbrev pub base_addresses : Option (Range ℕ) → Option (Range ℕ) → Option (Range ℕ) → Option (Range ℕ) → BaseAddresses
base_addresses eh_frame eh_frame_hdr text got = record {
  eh_frame = start_of eh_frame;
  eh_frame_hdr = start_of eh_frame_hdr;
  text = start_of text;
  got = start_of got;
}

-- the range of the section of the first name, or else of the second
abbrev pub range_under : {D : Type 0} → List (Entry D) → List ℕ → List ℕ → Option (Range ℕ)
range_under sections first second = option_or (range_of first sections) (range_of second sections)

-- the base addresses of a module with these sections
abbrev pub base_addresses_of : {D : Type 0} → List (Entry D) → BaseAddresses
base_addresses_of sections =
    base_addresses
    (range_under sections (codes "__eh_frame") (codes ".eh_frame"))
    (range_under sections (codes "__eh_frame_hdr") (codes ".eh_frame_hdr"))
    (range_under sections (codes "__text") (codes ".text"))
    (range_under sections (codes "__got") (codes ".got"))

-- the call frame section of these bytes in a module with that table
abbrev pub section_in : {D : Type 0} → UnwindSectionType → SectionTable D → List ℕ → Section
section_in kind table bytes = section_of kind (base_addresses_of table.sections) bytes
