-- Lemmas of this crate.
pub mod MachineX86_64
pub mod MachineAarch64
pub mod ActionsX86_64
pub mod ActionsAarch64
