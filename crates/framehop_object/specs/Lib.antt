-- What the contracts of this crate cite: the parts of ELF files and of PE files.
pub mod Elf
pub mod Pe
