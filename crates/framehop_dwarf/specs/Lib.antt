-- What the contracts of this crate cite: the index, expressions, and from a row to a frame.
pub mod Aarch64
pub mod Bases
pub mod Direct
pub mod Evaluation
pub mod Index
pub mod MayTakeMemory
pub mod Operation
pub mod OperationCode
pub mod Refusal
pub mod RowMeaning
pub mod Told
pub mod Tree
pub mod Units
pub mod Unwinder
pub mod X86_64
-- Lemmas that the traits' laws import: a reader of the contracts can pass them.
pub mod Laws
