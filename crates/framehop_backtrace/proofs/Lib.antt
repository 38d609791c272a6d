-- What the proofs of this crate share.
pub mod BacktraceLemmas
pub mod ColumnsLemmas
pub mod InfoLemmas
pub mod KeptLemmas
pub mod LibraryLemmas
pub mod NextLemmas
