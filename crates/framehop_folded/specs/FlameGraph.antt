-- What the contracts of its module cite: stacks, boxes and their picture.
--
-- A stack is the names of its frames from the outermost on. A *prefix* of stacks is a list of one frame or more with
-- which one of them begins.
pub mod Stacks
pub mod Boxes
pub mod Sweep
pub mod Numbers
pub mod Names
pub mod Picture
pub mod Changes
