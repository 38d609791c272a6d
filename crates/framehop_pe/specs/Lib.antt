-- What the contracts of this crate cite: sections, unwind info and its codes, epilogs, and frames.
--
-- A *way* is what leads from a frame to its caller: operations that undo a prolog, or what is left of an epilog. It is
-- a function of the module's bytes, the address and the kind of the frame; what it does to registers and memory is
-- another.
pub mod Sections
pub mod FunctionTable
pub mod Register
pub mod Codes
pub mod Info
pub mod Chain
pub mod Operations
pub mod Resolve
pub mod Epilog
pub mod Instructions
pub mod EpilogRun
pub mod Answer
pub mod Offsets
pub mod Frame
-- Lemmas that the traits' laws import: a reader of the contracts can pass them.
pub mod Laws
