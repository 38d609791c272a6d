-- What the contracts of this crate cite: which files are read, where, and which of their parts.
pub mod CoreParts
pub mod Counted
pub mod Disk
pub mod Gaps
pub mod Inputs
pub mod KnownNames
pub mod ObjectParts
pub mod Paths
pub mod Places
pub mod Printed
pub mod ReadPaths
pub mod RecordingFrame
pub mod Segments
pub mod Unasked
pub mod Wanted
