-- Lemmas of this crate.
pub mod PeLemmas
