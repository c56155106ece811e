-- The heights of a stack as an analysis.
pub mod Steps
pub mod Heights
pub mod HeightLaws
