-- What the contracts of this crate cite: instructions, the machine, prologues and epilogues of each architecture.
--
-- A machine and the shapes of prologues and epilogues are told apart from one another: a machine has a row for each
-- instruction, a shape is a statement about lists of instructions and their places. A machine reads the bytes by
-- definitions of its own, and shares none with the shapes: on aarch64 by the fields of Arm's manual, on x86_64 by rows
-- of bytes. `Laws/Aarch64/Encodings` proves that both read the same, and `Laws/Aarch64/Assembled` that the machine
-- reads words as an assembler writes them.
--
-- A rule is told by a relation, and `analysed` is its function: the only rule that the relation has at an offset of the
-- code, or none, as the law `analysed_only` says. It is not the detectors' code but a value that is constructed with
-- its proof, by recursion over the code (`prologue-decided` and `epilogue-decided` of `Laws`).
--
-- Words that were chosen:
--
-- - *run*: the instructions that have been executed in a prologue, and its *depth* what they lower sp by
-- - *place*: an offset from sp at the pc
pub mod Answer
pub mod Aarch64
pub mod X86_64
-- Lemmas that the traits' laws import: a reader of the contracts can pass them.
pub mod Laws
