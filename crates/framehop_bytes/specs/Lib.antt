-- What the contracts of this crate cite: numbers at offsets, strings, places in tables, and the sections of a module.
pub mod ByCode
pub mod Bytes
pub mod ExplicitSections
pub mod Gathered
pub mod Minus
pub mod Place
pub mod SectionTable
pub mod String
