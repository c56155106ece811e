-- Lemmas by topic.
pub mod Fills
