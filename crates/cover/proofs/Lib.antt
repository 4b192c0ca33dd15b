pub mod Levels
pub mod Meaning
pub mod Passes
pub mod Runs
