-- What the contracts of this crate cite: the stacks of the threads of core files and minidumps.
pub mod Refusal
pub mod FrameHeaders
pub mod Modules
pub mod Ended
pub mod Problems
pub mod Thread
pub mod Walked
pub mod Signal
pub mod Exception
pub mod Text
pub mod Report
pub mod Walk
pub mod JsonCrash
pub mod JsonModules
pub mod JsonThreads
pub mod JsonReport
-- Lemmas that the laws of a trait import: a reader of the contracts can pass them.
pub mod Laws
