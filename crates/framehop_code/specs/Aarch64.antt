-- aarch64: the encodings, and what an instruction does to sp and x29; of all general registers and of memory the fields of an
-- instruction, loads and stores, and the others.
pub mod Encodings
pub mod Instruction
pub mod Machine
pub mod Forms
pub mod Fields
pub mod Access
pub mod Pair
pub mod Structure
pub mod Action
pub mod MachineActions
