-- The definitions that the contracts of the machine cite.
pub mod States
pub mod Asked
pub mod Histories
pub mod Playing
pub mod Shorts
