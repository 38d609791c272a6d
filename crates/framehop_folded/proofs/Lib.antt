-- Lemmas of this crate.
mod AddedLemmas
mod BoxLemmas
mod ChangeLemmas
mod FoldedLemmas
mod GraphLemmas
mod MergeLemmas
mod OrderLemmas
mod PictureLemmas
mod SpeedscopeLemmas
mod StackLemmas
mod SweepLemmas
mod TextLemmas
