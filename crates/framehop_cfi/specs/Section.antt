-- A call frame section (DWARF 5 section 6.4.1; LSB, ".eh_frame").
use Rattle.std.specs.Prelude.{ℕ, List}
use Rattle.framehop_cfi.specs.declared.pointer.BaseAddresses.{BaseAddresses}
use Rattle.framehop_cfi.specs.declared.pointer.SectionBaseAddresses.{SectionBaseAddresses}
use Rattle.framehop_cfi.specs.declared.entry.UnwindSectionType.{UnwindSectionType}
use Rattle.framehop_cfi.specs.declared.entry.UnwindSectionType.TheVariants.{EhFrame, DebugFrame}

-- which of the two sections it is, what its pointers count from, and its bytes
pub record Section : Type 0 where
  pub kind : UnwindSectionType
  pub bases : SectionBaseAddresses
  pub bytes : List ℕ

-- the section's own start, which pc-relative pointers count from; for `.debug_frame` it counts as 0
abbrev pub section_start : UnwindSectionType → BaseAddresses → ℕ
section_start EhFrame bases = bases.eh_frame
section_start DebugFrame bases = 0

-- the section of these bytes in a module with these base addresses
abbrev pub section_of : UnwindSectionType → BaseAddresses → List ℕ → Section
section_of kind bases bytes = record {
  kind = kind;
  bases = record { section = section_start kind bases; text = bases.text; «data» = bases.got };
  bytes = bytes;
}
