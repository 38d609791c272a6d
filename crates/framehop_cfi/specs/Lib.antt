-- What the contracts of this crate cite: from bytes to entries, instructions, rows and the header's table.
--
-- A *reading* is what is at an offset with the offset after it, or the refusal.
pub mod Aarch64
pub mod Augmentation
pub mod AugmentationMeaning
pub mod Context
pub mod Entries
pub mod Entry
pub mod EntryMeaning
pub mod Header
pub mod Instruction
pub mod InstructionCode
pub mod Layout
pub mod Leb128
pub mod Numbers
pub mod Outcome
pub mod Pointer
pub mod PointerEncoding
pub mod Raw
pub mod Refusal
pub mod Remembered
pub mod RememberedCopies
pub mod RememberedLog
pub mod Row
pub mod RowAt
pub mod RowCursor
pub mod RowMeaning
pub mod RowRoom
pub mod Section
pub mod EntryExtent
pub mod TableRows
pub mod Turn
pub mod X86_64
