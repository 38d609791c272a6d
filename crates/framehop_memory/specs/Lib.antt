-- What the contracts of this crate cite: ranges of memory, and segments of files.
--
-- The source is the System V gABI, chapter 5.
pub mod Range
pub mod Memory
pub mod Parts
pub mod Segment
pub mod Code
pub mod ByAddress
pub mod Stairs
pub mod SizedRange
pub mod RangeTree
