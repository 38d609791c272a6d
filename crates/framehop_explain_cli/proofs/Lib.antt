pub mod FaultLemmas
pub mod FileLemmas
pub mod FunctionLemmas
pub mod PlaceLemmas
pub mod RowLemmas
pub mod SessionLemmas
