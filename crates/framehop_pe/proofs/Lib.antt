pub mod Starts
pub mod CodeLists
pub mod Chains
pub mod Pops
pub mod Iterators
