-- Lemmas of this crate.
pub mod RowLemmas
pub mod CheckLemmas
pub mod ContradictionLemmas
pub mod QuietLemmas
pub mod CountLemmas
pub mod QuietExample
pub mod MissingLemmas
pub mod SectionLemmas
pub mod EntryLemmas
