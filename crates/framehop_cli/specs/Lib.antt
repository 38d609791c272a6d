-- What the contracts of this crate cite: with which status a program ends, and how names are printed.
pub mod Status
pub mod Printed
