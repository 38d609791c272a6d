-- What the contracts of this crate cite: mappings, the process that they are of, the files that it maps, and where addresses
-- are in them.
pub mod Refusal
pub mod Mappings
pub mod Process
pub mod Shared
pub mod ReadRefusal
pub mod Source
pub mod MadeUpId
pub mod MappedBytes
pub mod ObjectFiles
pub mod CodeMap
pub mod Files
pub mod Place
pub mod Code
pub mod Constants
pub mod Found
pub mod DebugFrame
pub mod FramesText
pub mod FunctionStart
pub mod Exports
