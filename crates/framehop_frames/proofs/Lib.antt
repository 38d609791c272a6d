mod NameLemmas
mod PrintedLemmas
mod LineLemmas
mod NoteLemmas
mod NumberedLemmas
mod JsonLemmas
pub mod StartLemmas
pub mod FloatLemmas
mod MissingLemmas
