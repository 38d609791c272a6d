-- x86_64: the opcode maps, the parts of an instruction, and what it does.
pub mod Opcodes
pub mod Operation
pub mod Instruction
pub mod Operand
pub mod Written
pub mod Action
pub mod Machine
pub mod MachineActions
