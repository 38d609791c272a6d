-- What the contracts of this crate cite: which parts of an ELF file are looked at, what is found function by function, what is
-- said of a file, and the lines of the report.
pub mod Checked
pub mod Findings
pub mod Opened
pub mod Parts
pub mod PeFindings
pub mod Text
