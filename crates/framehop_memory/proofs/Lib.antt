-- Lemmas of this crate.
pub mod RangeLemmas
pub mod CodeLemmas
pub mod ByAddressLemmas
pub mod PartLemmas
pub mod StairLemmas
pub mod RangeTreeLemmas
