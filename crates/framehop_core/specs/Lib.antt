-- What the contracts of this crate cite: memory, outcomes, runs, and each architecture's registers and rules.
--
-- Words that were chosen:
--
-- - *callee, caller*: the frame that a rule starts from, and the frame that it finds
-- - *first frame, other frame*: a frame at its instruction pointer, and any other (`true` and `false` in the tables)
-- - *outcome*: what a rule does to a frame: an address and the caller's registers, the root, or a refusal
-- - *line*: a row of a rule table, as data
-- - *source*: where the caller's value of a register is
-- - *demand*: what is asked of the caller's stack pointer or frame pointer
-- - *word*: the 8 bytes that a stack read gives
-- - *ordering, number*: a list of registers, and the number that stands for it beside a count
-- - *arrangement*: a list without repetition of registers among the eight
-- - *run*: rules one after another
pub mod AddSigned
pub mod Bits
pub mod ErrorText
pub mod Memory
pub mod CodeAddress
pub mod Outcome
pub mod Runs
pub mod Step
pub mod Aarch64
pub mod X86_64
-- Lemmas that the traits' laws and other crates import: a reader of the contracts can pass them.
pub mod Laws
