-- Laws that follow from the definitions. They define nothing: a reader of the definitions can pass them. They are here
-- and not among the proofs, since other crates cite them.
pub mod Refusals
pub mod Simulation
