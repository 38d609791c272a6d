-- What the contracts of this crate cite: what is read, and what is printed.
pub mod Answers
pub mod Commands
pub mod Fields
pub mod Numbers
pub mod Program
pub mod Reading
pub mod Refusals
pub mod Registers
pub mod Runs
pub mod Sections
pub mod Sharing
pub mod Streams
pub mod Text
