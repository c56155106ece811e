-- What filling a heap leaves.
pub mod Filled
