-- The worked examples, and when an example stands.
pub mod Standing
pub mod Programs
pub mod Examples
