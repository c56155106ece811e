-- Lemmas of the walk.
pub mod Order
pub mod Theory
pub mod Weight
pub mod Workspace
pub mod Digits
pub mod Words
pub mod Edges
