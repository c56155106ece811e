-- What heaps mean, whatever their layout.
pub mod Faults
pub mod Limits
pub mod Meaning
pub mod Calls
pub mod Lawful
pub mod Totals
pub mod AllowanceLawful
