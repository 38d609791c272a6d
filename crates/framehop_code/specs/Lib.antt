-- What the contracts of this crate cite: effects of instructions and what they mean, and the instructions of each
-- architecture, with what they do to all general registers and to memory.
--
-- The sources are the Intel 64 and IA-32 Architectures Software Developer's Manual, volume 2, the AMD64 Architecture
-- Programmer's Manual, volume 6 (XOP), and the Arm Architecture Reference Manual for A-profile.
pub mod Effect
pub mod X86_64
pub mod Aarch64
