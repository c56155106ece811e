-- Lemmas of the cell heap.
pub mod Strips
pub mod CellObjects
