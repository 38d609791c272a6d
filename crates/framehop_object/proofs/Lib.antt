-- Lemmas of this crate.
pub mod NoteLemmas
pub mod SectionLemmas
pub mod StringLemmas
pub mod SymbolLemmas
