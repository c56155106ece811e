-- Lemmas of the verifier.
pub mod Unowned
pub mod Solved
pub mod Handed
pub mod Kept
