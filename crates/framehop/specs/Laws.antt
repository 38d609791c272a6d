-- Laws that the code's traits ask for, proved here since an `impl` cites `specs/`. They define nothing.
pub mod Policy
pub mod Values
pub mod Meaning
pub mod Aarch64
pub mod X86_64
pub mod SectionContents
