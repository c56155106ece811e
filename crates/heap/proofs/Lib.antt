-- Lemmas by topic.
pub mod Objects
pub mod KeptTotals
