-- Lemmas of this crate.
mod AddressLemmas
pub mod ApartLemmas
mod CodeLemmas
mod CodeMapLemmas
mod ConstantLemmas
mod ExchangeLemmas
mod FileLemmas
mod FrameLemmas
mod MapLemmas
mod MappingLemmas
mod PlaceLemmas
mod PlainnessLemmas
