pub mod Reach
pub mod Cost
