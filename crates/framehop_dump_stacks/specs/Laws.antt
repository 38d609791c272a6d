-- Lemmas that laws of a trait are.
pub mod JsonParts
pub mod TextParts
