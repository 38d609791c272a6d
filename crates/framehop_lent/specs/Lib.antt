-- What the contracts of this crate cite: words that are lent, walks that are written, and words that are asked for.
pub mod Ahead
pub mod Window
pub mod Walk
