-- What the contracts of this crate cite: folded stacks, their text and their picture.
--
-- A *folded stack* is the names of a stack's frames from the outermost on, joined by `;`, with how often it was
-- counted.
pub mod Text
pub mod Folded
pub mod Changes
pub mod Laws
pub mod FlameGraph
pub mod Speedscope
