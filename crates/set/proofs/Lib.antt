-- Lemmas of the set and its reader.
pub mod Added
pub mod AddedClass
pub mod Checked
pub mod ClassWays
pub mod Cut
pub mod Emptied
pub mod Extends
pub mod Inherited
pub mod Kept
pub mod Refused
pub mod SameTypes
pub mod Ways
