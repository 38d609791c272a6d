-- What the contracts of its module cite: the parts of an ELF file.
--
-- The source is the System V gABI, chapter 4 ("Object Files") and chapter 5 ("Program Loading and Dynamic Linking").
pub mod Numbers
pub mod Block
pub mod Header
pub mod SectionHeader
pub mod ProgramHeader
pub mod Section
pub mod ElfFile
pub mod Segment
pub mod Note
pub mod BuildId
pub mod Symbol
pub mod FileSection
pub mod Decompressed
pub mod ErrorText
pub mod UnwindSections
