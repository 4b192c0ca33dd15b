pub mod Computed
pub mod Reach
pub mod Cost
