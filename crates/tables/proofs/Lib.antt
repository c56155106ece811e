-- What is proved of the tables, by topic.
pub mod Spans
pub mod Programs
pub mod Positions
pub mod Climbs
pub mod Numbering
pub mod Rows
pub mod Owners
pub mod Standing
