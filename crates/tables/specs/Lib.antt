-- What the tables of a set stand for.
pub mod Spans
pub mod Views
pub mod Records
pub mod Methods
