-- The worked examples stand.
pub mod Tests
pub mod Sweep
pub mod Examples
