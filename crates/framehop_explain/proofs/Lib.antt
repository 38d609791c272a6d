pub mod AnnotatedLemmas
pub mod CallerLemmas
pub mod CodeLemmas
pub mod DecidedLemmas
pub mod FoundLemmas
pub mod NoteLemmas
pub mod ToldLemmas
pub mod UncoveredLemmas
