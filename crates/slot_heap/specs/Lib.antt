-- What the slot heap's layout means.
pub mod Limits
pub mod Slots
pub mod SlotsLawful
