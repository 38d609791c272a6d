-- Lemmas of this crate.
pub mod RunLemmas
pub mod EachLemmas
pub mod EventLemmas
pub mod TimeLemmas
pub mod EventNameLemmas
