-- What the contracts of this crate cite: core files and minidumps as dumps.
--
-- A *dump* is what is known of a process that is gone: by a core file, or by a minidump and the files of its modules.
pub mod Dump
pub mod Image
pub mod SharedHeaders
pub mod Added
pub mod CoreDump
pub mod Heads
pub mod ThreadNames
pub mod Minidump
