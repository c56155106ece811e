-- Lemmas of the machine.
pub mod Runs
pub mod Begins
pub mod Plays
pub mod Tells
pub mod Awake
