-- x86_64: registers, their orderings, and rules.
pub mod Registers
pub mod Ordering
pub mod Rules
pub mod RuleOfOperations
