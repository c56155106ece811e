-- What the cell heap's layout means.
pub mod Limits
pub mod Strip
pub mod StripLaws
pub mod Cells
pub mod CellHeaps
pub mod CellsLawful
