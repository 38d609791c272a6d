-- What the contracts of this crate cite: outputs, and what has failed.
pub mod Output
