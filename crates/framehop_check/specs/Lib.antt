-- What the contracts of this crate cite: what rows claim, what code tells, what contradicts what, which code has no rows.
pub mod Claim
pub mod Known
pub mod Rows
pub mod Tracked
pub mod Report
pub mod Check
pub mod Contradiction
pub mod Quiet
pub mod Counts
pub mod Prolog
pub mod Missing
pub mod Entries
pub mod Sections
pub mod Room
