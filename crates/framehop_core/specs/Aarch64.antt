-- aarch64: registers and rules.
pub mod Registers
pub mod Rules
