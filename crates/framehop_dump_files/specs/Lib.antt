-- What the contracts of this crate cite: the parts of core files and of minidumps.
pub mod Coredump
pub mod Minidump
