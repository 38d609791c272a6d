-- What the contracts of this crate cite: handles and what they own, the numbers that C is told, and what they stand for.
pub mod Aarch64
pub mod Ahead
pub mod Handle
pub mod Lending
pub mod Lookups
pub mod NamedSections
pub mod Objects
pub mod Sections
pub mod Status
pub mod Told
pub mod Version
pub mod X86_64
