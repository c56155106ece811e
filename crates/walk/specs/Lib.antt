-- The definitions that the contracts of the walk cite.
pub mod Limits
pub mod Lattice
pub mod Flow
pub mod Framework
pub mod Solution
pub mod Rows
pub mod Marks
pub mod Walking
pub mod Answers
