mod ServedLemmas
mod BuildIdLemmas
mod ProblemLemmas
mod StateLemmas
mod TakenLemmas
mod BodiesLemmas
mod EventLemmas
mod LinesLemmas
mod KallsymsLemmas
mod EndedLemmas
mod WrittenLemmas
mod JsonLemmas
mod SampledLemmas
mod SoFarLemmas
mod NumberedLemmas
mod PrintedLemmas
pub mod ChoiceLemmas
pub mod ChainLemmas
