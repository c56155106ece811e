-- The laws of files and what they rest on.
pub mod Counting
pub mod Steps
pub mod Numbers
pub mod Lists
pub mod Instrs
pub mod Kept
pub mod Methods
pub mod Classes
pub mod RoundTrip
pub mod Bytes
pub mod Examples
pub mod Found
pub mod Front
pub mod WellFormed
pub mod Growing
pub mod FileOrder
