-- What a list in fixed memory holds.
pub mod Items
