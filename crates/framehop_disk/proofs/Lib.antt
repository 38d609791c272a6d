-- What the proofs of this crate share.
pub mod NamesLemmas
pub mod GapsLemmas
pub mod PathLemmas
pub mod WantedLemmas
pub mod PlacesLemmas
pub mod InputLemmas
pub mod CorePartsLemmas
pub mod PrintedLemmas
pub mod RecordingFrameLemmas
pub mod CountedLemmas
