pub mod SoundnessLemmas
pub mod ModuleLemmas
pub mod WalkLemmas
mod CachedWorldLemmas
mod WorldLemmas
mod ToldLemmas
mod FramesLemmas
mod AnswerLemmas
mod RunLemmas
mod RiseLemmas
pub mod EndingLemmas
mod MeaningLemmas
mod Quarters
