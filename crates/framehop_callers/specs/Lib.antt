-- What the contracts of this crate cite: registers by column, expressions that read memory, a row's meaning; what a run
-- knows, how it goes on, and the caller that it comes to.
pub mod Base
pub mod Caller
pub mod Convention
pub mod Evaluation
pub mod Load
pub mod RegisterFile
pub mod Rules
pub mod Known
pub mod Calls
pub mod State
pub mod Step
pub mod Run
pub mod Machine
pub mod Sound
