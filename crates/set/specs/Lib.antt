-- What a set stands for, and how reading fills it.
pub mod Sets
pub mod Taken
pub mod Counts
pub mod Grown
pub mod Progress
