-- Lemmas of this crate.
pub mod CallerLemmas
pub mod Columns
pub mod Meaning
pub mod Named
pub mod ReturnAddress
pub mod Runs
pub mod SoundLemmas
pub mod StoreLemmas
pub mod Values
