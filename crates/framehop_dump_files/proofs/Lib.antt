-- Lemmas of this crate.
pub mod FileLemmas
pub mod GatherLemmas
pub mod NoteLemmas
pub mod RangeLemmas
pub mod ThreadLemmas
mod VectorLemmas
