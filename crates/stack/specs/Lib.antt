-- The definitions that the contracts of the bounded stack cite.
pub mod Stacked
