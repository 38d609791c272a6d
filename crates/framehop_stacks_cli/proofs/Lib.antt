-- Lemmas of this crate.
pub mod CommandLineLemmas
