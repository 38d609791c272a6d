-- What the contracts of this crate cite: bits in order, places in the stream, codes, copies, blocks and the checksum.
pub mod Adler
pub mod Bits
pub mod Blocks
pub mod Codes
pub mod Copies
pub mod Dynamic
pub mod Elements
pub mod ErrorText
pub mod Reading
pub mod Stored
pub mod Tables
pub mod Zlib
