pub mod X86_64Runs
pub mod Aarch64Runs
pub mod Runs
pub mod Sequences
pub mod Orderings
mod RegisterFile
pub mod Callback
mod Masks
