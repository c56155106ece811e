-- Lemmas of the bounded stack.
pub mod Held
