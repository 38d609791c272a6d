-- What the contracts of this crate cite: frames with whole register files, how one leads to the next, signal
-- frames, and backtraces.
pub mod Backtrace
pub mod Call
pub mod Code
pub mod Columns
pub mod Covers
pub mod Guess
pub mod Info
pub mod Kept
pub mod Library
pub mod Machine
pub mod Restored
pub mod Rows
pub mod Signal
