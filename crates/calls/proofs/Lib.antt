pub mod Eligible
pub mod Flags
pub mod Outcomes
