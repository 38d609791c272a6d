mod AdlerLemmas
mod BitLemmas
mod CodeLemmas
mod ElementLemmas
mod LoopLemmas
mod ReadLemmas
mod TableLemmas
