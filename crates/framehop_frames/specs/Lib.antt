-- What the contracts of this crate cite: stacks and their text.
pub mod Start
pub mod Unseen
pub mod Line
pub mod Missing
pub mod Stack
pub mod Numbered
pub mod Explained
pub mod Code
pub mod Walker
pub mod Rows
pub mod Taken
pub mod TakenText
pub mod Notes
-- Which JSON value (RFC 8259) says the same.
pub mod JsonValues
pub mod JsonFrames
pub mod JsonFiles
