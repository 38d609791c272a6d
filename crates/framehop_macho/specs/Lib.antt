-- What the contracts of this crate cite: tables, functions and saved registers, opcodes of both architectures, frames.
--
-- A *row* is an entry of a table with its index and where the next one begins.
pub mod Table
pub mod UnwindInfo
pub mod SavedRegisters
pub mod Answer
pub mod X86_64
pub mod Aarch64
pub mod Unwinder
-- Lemmas that the traits' laws import: a reader of the contracts can pass them.
pub mod Laws
