-- Facts that other crates need too, and laws that follow from the tables. They define nothing: a reader of the
-- definitions can pass them. They are here and not among the proofs, since an `impl` and other crates cite them.
pub mod Basics
pub mod Outcome
pub mod Aarch64
pub mod X86_64
pub mod Orderings
pub mod RuleOfOperations
