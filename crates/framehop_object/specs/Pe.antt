-- What the contracts of its module cite: the parts of a PE file.
--
-- The source is Microsoft's "PE Format"; numbers and structs have their names in winnt.h.
pub mod Numbers
pub mod Block
pub mod Header
pub mod SectionHeader
pub mod PeFile
pub mod Section
pub mod Rva
pub mod UnwindSections
pub mod CodeView
pub mod Exports
pub mod ErrorText
