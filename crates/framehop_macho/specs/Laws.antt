-- What the trait of an architecture asks for: in a first frame the rule by the code comes before the opcode.
pub mod Aarch64
pub mod X86_64
